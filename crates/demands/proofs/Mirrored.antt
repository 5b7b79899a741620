-- What a sequence leaves mirrors the history of its accepted calls, so that the model's theorems and those of the questions speak of it. Assumes nothing.
use Prim.Native.Nat.{ℕ, ◌*◌}
use mathlib.Core.Path.{◌≡◌, ap}
use mathlib.Core.List.{List}
use native.Mathlib.Omega.{arith}
use lib.ListN.{drop}
use Rattle.layout.specs.declared.Shape.{Shape}
use Rattle.layout.specs.Layout.{node_size}
use Rattle.record.specs.declared.History.{History}
use Rattle.record.proofs.Facts.{sound_shape, sound_numbers}
use Rattle.model.specs.Transient as M
use Rattle.model.specs.Transient.{history}
use Rattle.model.specs.Nodes as N
use Rattle.model.specs.Nodes.{standing}
use Rattle.model.specs.Theorems.{Run, Allowed, left, tree, made, Calls64}
use Rattle.represents.specs.Represents.{shape_of}
use Rattle.represents.specs.Histories.{Opening, run_of, Stands}
use Rattle.represents.specs.Mirrors.{Mirrors}
use Rattle.represents.proofs.Proved.{record_sound, buffers_long}
use Rattle.represents.proofs.Shown.{same_shape, same_used, same_bytes, same_root}
use Rattle.demands.specs.Sequences.{Sequence, now, story, afresh}
use Rattle.demands.proofs.Standing.{opened, known}

module _ (p : Opening) (cs : List M.Call) (h : History) (b table : List ℕ) (at : Stands p cs h b table) where
  pub mirrors : Mirrors (run_of p cs) h b table
  mirrors = let r = same_root p cs h b table at in record {
    whole = record_sound p cs h b table at;
    long = buffers_long p cs h b table at;
    shape = same_shape p cs h b table at;
    start = at.shows.start;
    latest = at.shows.latest;
    attributes = at.shows.attributes;
    finished = at.shows.finished;
    used = same_used p cs h b table at;
    rest = drop ((tree (run_of p cs)).used * node_size p.shape) b;
    bytes = same_bytes p cs h b table at;
    root = r.0;
    below = r.1;
    rooted = r.2;
    place = r.3;
    level = r.4;
    entries = λ e. (at.shows.until e).entries;
  }

  pub allows : Allowed (run_of p cs)
  allows =
      let w = record_sound p cs h b table at in
      let f = sound_shape h w in
      let n = sound_numbers h w in
      let e = at.shows.shape in
      record {
        shaped = record { intervals = omega (arith, f.some, ap (λ (s : Shape). s.k) e); children = omega (arith, f.two, ap (λ (s : Shape). s.c) e) };
        some = omega (arith, n.some, n.room, ap (λ (s : Shape). s.n) e);
        begins = omega (arith, at.begins);
      }

-- ---- of a sequence

module _ (s : Sequence) where
  abbrev pub ran : Run
  ran = run_of (opened s) (known s).calls

  pub mirrored : Mirrors ran (now s).history (now s).nodes (now s).table
  mirrored = mirrors (opened s) (known s).calls (now s).history (now s).nodes (now s).table (known s).at

  pub allowed : Allowed ran
  allowed = allows (opened s) (known s).calls (now s).history (now s).nodes (now s).table (known s).at

  pub fitting : Calls64 ran.calls
  fitting = (known s).at.values

  -- the history that the model's run leaves is that of the accepted calls
  pub leaves : left ran ≡ story s
  leaves = ap (history s.start s.attributes) (known s).took

  pub builds : made ran ≡ afresh s
  builds = ap (λ (l : M.History). N.nodes (standing (shape_of s.shape) l)) leaves
