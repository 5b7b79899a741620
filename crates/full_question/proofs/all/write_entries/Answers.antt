use Prim.Native.Nat.{◌+◌, ◌*◌}
use mathlib.Core.Path.{◌≡◌, sym, ap, ◌∙◌}
use native.Mathlib.Omega.{arith}
use lib.ListN.{length}
use lib.Seq.{length-sets}
use Rattle.layout.specs.Layout.{entry_size}
use Rattle.full_question.proofs.Fulls.{entries_turn, entries_done}
use Rattle.full_question.proofs.all.write_entries.Goals as goal

pub loop-q-preserved : goal.loop-q-preserved
loop-q-preserved c =
    let inv = c.loop-q.invariant in
    let next : c.args.at + entry_size * c.loop-q.q + entry_size ≡ c.args.at + entry_size * (c.loop-q.q + 1) = omega arith in record {
      long = ap length c.put_named.ensures ∙ simp length-sets inv.long;
      writes = inv.writes ∙ entries_turn _ _ _ _ _ _ _ _ _ c.entry_for-e.ensures c.put_named.ensures c.loop-q-test.true _ next;
    }

pub returns : goal.returns
returns c = sym (c.loop-q.invariant.writes ∙ entries_done _ _ _ _ _ _ _ c.loop-q-test.false)
