-- Several intervals one after the other, as finish stores them; the first of the list is the first stored. The model's lists have the latest first.
use Rattle.std.specs.Prelude.{cond, List, [], ◌∷◌, ◌<◌}
use Rattle.record.specs.declared.History.{History}
use Rattle.record.specs.Refusals.{Reply, Nothing, accepted}
use Rattle.build.specs.Moves.{Held}
use Rattle.build.specs.Write.{inserted}
use Rattle.build.specs.Trial.{tried}
use Rattle.model.specs.Transient.{Interval}
use Rattle.model.specs.Nodes.{∞}
use Rattle.represents.specs.Represents.{entry_of}

-- "the first interval in quark order that breaks either decides, depth before room": on the record alone, each on what the earlier ones leave
unfoldable pub tried_all : List Interval → History → Reply
tried_all [] h = Nothing
tried_all (x ∷ later) h = let r = tried h x.start x.end in cond (accepted r.refusal) (tried_all later r.history) r.refusal

-- on record and nodes
unfoldable pub inserted_all : List Interval → Held → Held
inserted_all [] σ = σ
inserted_all (x ∷ later) σ = inserted_all later (inserted (entry_of x) σ)

-- no interval ends at 2^64-1, which is the end of an open node
abbrev pub Early : List Interval → Type 0
Early [] = Unit {0}
Early (x ∷ xs) = (x.end < ∞) × Early xs
