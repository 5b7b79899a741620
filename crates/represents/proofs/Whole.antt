-- A record that shows a history of real calls is sound, its buffers are long enough, and every ongoing entry is sound. Assumes nothing.
use Prim.Native.Nat.{ℕ, ◌+◌, ◌*◌, ◌/◌, ◌^◌, ◌≤◌, ◌<◌}
use mathlib.Core.Bool.{Bool, true, false, ◌&&◌, ◌||◌}
use mathlib.Core.Path.{◌≡◌, refl, sym, ap, ◌∙◌}
use mathlib.Core.List.{List, [], ◌∷◌}
use native.Mathlib.Omega.{arith}
use lib.Dec.{leb, lit<}
use lib.IntN.{pos}
use lib.ListN.{length}
use borrow.Author.Tests.{le-leb, lt-ltb, eq-eqb}
use mir.Syntax.{w64}
use mir.Val.{SFits}
use mir.Facts.{sfits_lit}
use Rattle.layout.specs.declared.Shape.{Shape}
use Rattle.layout.specs.Layout.{node_size, entry_size}
use Rattle.record.specs.declared.Branch.{Branch}
use Rattle.record.specs.declared.History.{History}
use Rattle.record.specs.Levels.{place_at, start_at}
use Rattle.record.specs.Sound.{last_time, shape_allowed, numbers_sound, levels_sound, starts_fall, last_end_sound, branch_sound, sound, long_enough}
use Rattle.record.proofs.Facts.{sound_shaped}
use Rattle.transient.specs.Transient.{ongoing_at, ongoing_sound, state_sound, OngoingFits}
use Rattle.transient.proofs.Sound.{null_sound, number_sound, is_ongoing}
use Rattle.model.specs.State.{State, null, int, kind_of, value_of, Within64}
use Rattle.model.specs.Transient as M
use Rattle.model.specs.Transient.{Interval}
use Rattle.model.specs.Build as B
use Rattle.model.specs.Build.{Open, Tree, build, insert}
use Rattle.model.specs.Nodes.{tree_of}
use Rattle.model.specs.Invariant.{Shaped}
use Rattle.model.proofs.Answers.{build_largest}
use Rattle.model.proofs.Bounded.{within_fits}
use Rattle.model.proofs.Keep.{build_sound}
use Rattle.model.proofs.Places.{build_counted}
use Rattle.represents.specs.Represents.{shape_of}
use Rattle.represents.specs.Histories.{ongoing_of, Rooted, Until, After, Shows}
use Rattle.represents.proofs.Placed.{Falls, falls}
use Rattle.represents.proofs.Levels.{branch_passes}
use Rattle.represents.proofs.Real.{Real}

-- ---- the record's tests

module _ (h : History) where
  numbers_pass : h.attributes ≤ 4096 → h.latest ≤ last_time → h.start ≤ h.latest → h.start ≤ h.largest_end → h.largest_end ≤ h.latest → h.top ≤ 15
      → 1 ≤ h.used → h.used ≤ h.shape.n → numbers_sound h ≡ true
  unfolding numbers_sound
  numbers_pass a b c d e f g i = simp (le-leb _ _ a, le-leb _ _ b, le-leb _ _ c, le-leb _ _ d, le-leb _ _ e, le-leb _ _ f, le-leb _ _ g, le-leb _ _ i)

  open_passes : h.finished ≡ false → h.low ≤ h.top → start_at h.branch h.top ≡ h.start → last_end_sound h.branch h.low h.start h.latest ≡ true
      → starts_fall h.branch h.low h.top ≡ true → levels_sound h.branch h.shape h.used h.low h.top ≡ true → branch_sound h ≡ true
  unfolding branch_sound
  open_passes a b c d e f = simp (a, le-leb _ _ b, eq-eqb _ _ c, d, e, f)

  closed_passes : h.finished ≡ true → h.low ≡ h.top + 1 → place_at h.branch h.top < h.used → branch_sound h ≡ true
  unfolding branch_sound
  closed_passes a b c = simp (a, eq-eqb _ _ b, lt-ltb _ _ c)

  is_sound : shape_allowed h.shape ≡ true → numbers_sound h ≡ true → branch_sound h ≡ true → sound h ≡ true
  unfolding sound
  is_sound a b c = simp (a, b, c)

-- ---- the root and the number of nodes

rooted_below : (b : Branch) (l q : ℕ) (fs : List Open) → Rooted b l fs → Falls q fs → place_at b l < q
rooted_below b l q [] r f = absurd r
rooted_below b l q (g ∷ []) r f = omega (arith, r.1, f.0)
rooted_below b l q (g ∷ p ∷ above) r f = let k = rooted_below b l g.head.seq (p ∷ above) r f.1 in omega (arith, f.0)

rooted_used : (b : Branch) (l q : ℕ) (fs : List Open) → Rooted b l fs → Falls q fs → 1 ≤ q
rooted_used b l q fs r f = omega (arith, rooted_below b l q fs r f)

pub tree_start : (sh : B.Shape) (o : ℕ) (ivs : List Interval) → (build sh o ivs).start ≡ o
unfolding build insert
tree_start sh o [] = refl
tree_start sh o (x ∷ ivs) = tree_start sh o ivs

-- ---- a state of the model

pub state_sound_lem : (v : State) → state_sound (kind_of v) (value_of v) ≡ true
state_sound_lem null = null_sound 0 (pos 0) refl refl
state_sound_lem (int z) = number_sound 1 z refl

pub value_fits : (v : State) → Within64 v → SFits w64 (value_of v)
value_fits null w = sfits_lit tt
value_fits (int z) w = within_fits z w

kind_small : (v : State) → kind_of v < 2 ^ 8
kind_small null = lit< tt
kind_small (int z) = lit< tt

pub state_fits : (v : State) (t : ℕ) → SFits w64 (value_of v) → t < 2 ^ 63 → OngoingFits (ongoing_of (record { state = v; start = t }))
state_fits v t f lt = record { kind = kind_small v; value = f; start = omega arith }

-- ---- what is shown

module _ (s : Shape) (l : M.History) (h : History) (b table : List ℕ) (real : Real l) (shows : Shows s l h b table) where
  abbrev t : Tree
  t = tree_of (shape_of s) l

  pub shaped : Shaped (shape_of s)
  shaped = let f = sound_shaped s shows.allowed in record { intervals = f.some; children = f.two }

  pub in_places : Falls t.used t.branch
  in_places = falls t.used t.branch (build_counted (shape_of s) l.start l.stored shaped real.stored.sane)

  pub largest_within : (l.start ≤ t.largest) × (t.largest ≤ l.latest)
  largest_within = (
    omega (arith, (build_sound (shape_of s) l.start l.stored shaped real.stored.sane).low, tree_start (shape_of s) l.start l.stored),
    build_largest (shape_of s) l.start l.latest l.stored real.stored.low real.stored.capped,
  )

  whole_until : Until s l h b table → l.finished ≡ false → sound h ≡ true
  whole_until u e =
      let rep = u.tree in
      let n = rep.numbers in
      let w = largest_within in
      let k = branch_passes h.branch s t.start t.largest t.used h.top h.low h.latest t.branch rep.some n.top n.lines n.last rep.ready.branch
      rep.ready.rooms in_places (omega (arith, shows.latest, w.1)) in
      is_sound h (rw shows.shape shows.allowed)
      (numbers_pass h (omega (arith, shows.attributes, shows.few)) (omega (arith, shows.latest, real.stored.high)) (omega (arith, shows.latest, shows.start, real.stored.low))
      (omega (arith, shows.start, n.largest, w.0)) (omega (arith, shows.latest, n.largest, w.1)) (omega (arith, n.shallow)) (omega (arith, n.used, k.5))
      (omega (arith, n.used, rep.within, ap (λ (z : Shape). z.n) shows.shape)))
      (open_passes h (shows.finished ∙ e) k.0 (k.1 ∙ sym n.start) (rw n.start k.2) k.3 (rw (n.shape, n.used) k.4))

  whole_after : After s l.latest t h b → l.finished ≡ true → sound h ≡ true
  whole_after a e =
      let w = largest_within in
      let f = in_places in
      is_sound h (rw shows.shape shows.allowed)
      (numbers_pass h (omega (arith, shows.attributes, shows.few)) (omega (arith, shows.latest, real.stored.high)) (omega (arith, shows.latest, shows.start, real.stored.low))
      (omega (arith, shows.start, a.largest, w.0)) (omega (arith, shows.latest, a.largest, w.1)) (omega (arith, a.shallow))
      (omega (arith, a.used, rooted_used h.branch h.top t.used t.branch a.root f)) (omega (arith, a.used, a.within, ap (λ (z : Shape). z.n) shows.shape)))
      (closed_passes h (shows.finished ∙ e) a.low (omega (arith, a.used, rooted_below h.branch h.top t.used t.branch a.root f)))

  -- the record is sound
  pub whole : sound h ≡ true
  whole = go l.finished refl
    where
      go : (f : Bool) → l.finished ≡ f → sound h ≡ true
      go true e = whole_after (shows.after e) e
      go false e = whole_until (shows.until e) e

  -- and the buffers are long enough
  pub long_enough_lem : long_enough h (length b) (length table) ≡ true
  unfolding long_enough
  long_enough_lem = go l.finished refl
    where
      nodes : leb (h.shape.n * node_size h.shape) (length b) ≡ true
      nodes = rw shows.shape (le-leb (s.n * node_size s) (length b) shows.room)

      go : (f : Bool) → l.finished ≡ f → leb (h.shape.n * node_size h.shape) (length b) && (h.finished || leb h.attributes (length table / entry_size)) ≡ true
      go true e = simp (nodes, shows.finished, e)
      go false e = simp (nodes, shows.finished, e, le-leb h.attributes (length table / entry_size) (omega (arith, shows.attributes, (shows.until e).long)))

  -- until finish every ongoing entry is sound, and fits its fields
  module _ (e : l.finished ≡ false) (q : ℕ) where
    pub entry_fits_lem : OngoingFits (ongoing_of (l.table q))
    entry_fits_lem = state_fits (l.table q).state (l.table q).start (value_fits (l.table q).state (real.values q)) (omega (arith, (real.begun e q).1, real.stored.high))

    pub entry_sound_lem : q < l.attributes → ongoing_sound (ongoing_at table q) h.start h.latest ≡ true
    entry_sound_lem lt =
        let k = real.begun e q in
        rw ((shows.until e).entries q lt)
        (is_ongoing (ongoing_of (l.table q)) h.start h.latest (state_sound_lem (l.table q).state) (omega (arith, k.0, shows.start)) (omega (arith, k.1, shows.latest)))
