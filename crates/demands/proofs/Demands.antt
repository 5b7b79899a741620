-- The demands, proved. Assumes nothing.
use Rattle.demands.specs.Demands.{Demand1, Demand2, Demand3}
use Rattle.demands.proofs.Settled.{settled}
use Rattle.demands.proofs.Kept.{refused_keeps, refused_unwritten}
use Rattle.demands.proofs.Exactly.{list_exactly, exactly, feed_exactly, numbers_differ}
use Rattle.demands.proofs.Answers.{numbers_said, single_tells, full_tells, single_scanned, full_scanned}
use Rattle.demands.proofs.Exported.{exported_tells, exported_tells_all}
use Rattle.demands.proofs.Closed.{rebuilt, closed_nodes}
use Rattle.demands.proofs.Ran.{every_run, each_call}

pub demand_1 : Demand1
demand_1 = record {
  settled = settled;
  kept = refused_keeps;
  unwritten = refused_unwritten;
  lists = list_exactly;
  exactly = exactly;
  feeds = feed_exactly;
  numbers = numbers_differ;
}

pub demand_2 : Demand2
demand_2 = record {
  numbers = numbers_said;
  single = single_tells;
  full = full_tells;
  exported = exported_tells;
  exported_all = exported_tells_all;
  every = every_run;
}

pub demand_3 : Demand3
demand_3 = record { each = each_call; rebuilt = rebuilt; closed = closed_nodes; single = single_scanned; full = full_scanned }
