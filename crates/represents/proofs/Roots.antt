-- The root of an open branch is the root of the tree that stands, and the top level of the record; so a record and nodes that represent an open tree, sound and with
-- buffers and a table that go with it, are all that a question needs. Assumes nothing.
use Prim.Native.Nat.{ℕ, ◌+◌, ◌*◌, ◌<◌}
use mathlib.Core.Bool.{Bool, true, false, cond}
use mathlib.Core.Path.{◌≡◌, refl, sym, ap, ◌∙◌}
use mathlib.Core.List.{List, [], ◌∷◌, ◌++◌}
use native.Mathlib.Omega.{arith}
use lib.ListN.{length, drop}
use Rattle.layout.specs.declared.Shape.{Shape}
use Rattle.layout.specs.Layout.{node_size}
use Rattle.record.specs.declared.Branch.{Branch}
use Rattle.record.specs.declared.History.{History}
use Rattle.record.specs.Levels.{place_at}
use Rattle.record.specs.Sound.{sound, long_enough}
use Rattle.transient.specs.Transient.{ongoing_at}
use Rattle.build.specs.Moves.{Held}
use Rattle.model.specs.Build.{Head, Subtrees, childless, also, Open, adopt}
use Rattle.model.specs.Nodes.{∞, nodes, placed, close_up, close_all, open_end, standing}
use Rattle.model.specs.Invariant.{Some}
use Rattle.model.specs.Theorems.{Run, left, tree, stands, made}
use Rattle.model.proofs.Keep.{build_start}
use Rattle.represents.specs.Represents.{shape_of, bytes_of, Lines, Represents}
use Rattle.represents.specs.Histories.{ongoing_of}
use Rattle.represents.specs.Mirrors.{Mirrors}

-- the last of a branch
abbrev pub top_of : Open → List Open → Head
top_of f [] = f.head
top_of f (p ∷ above) = top_of p above

adopt_top : (e : ℕ) (f p : Open) (above : List Open) → top_of (adopt e f p) above ≡ top_of p above
adopt_top e f p [] = refl
adopt_top e f p (g ∷ above) = refl

pub close_top : (e : ℕ) (f : Open) (above : List Open) → (k : Subtrees) × (close_up e f above ≡ also childless (top_of f above) e k)
close_top e f [] = (f.closed, refl)
close_top e f (p ∷ above) =
    let c = close_top e (adopt e f p) above in
    (c.0, c.1 ∙ ap (λ (z : Head). also childless z e c.0) (adopt_top e f p above))

-- its line is that of the top level
pub lines_top : (b : Branch) (c l : ℕ) (f : Open) (above : List Open) → Lines b c l (f ∷ above)
    → ((top_of f above).level ≡ l + length above) × (place_at b (l + length above) ≡ placed (top_of f above).seq)
lines_top b c l f [] x = (x.0.0 ∙ omega arith, ap (place_at b) (omega arith) ∙ x.0.1)
lines_top b c l f (p ∷ above) x =
    let t = lines_top b 1 (l + 1) p above x.1 in
    (t.0 ∙ omega arith, ap (place_at b) (omega arith) ∙ t.1)

-- what there is of the root, finished or not, where the branch's last is the record's top level
pub record Root (r : Run) (h : History) : Type 0 where
  pub root : Head
  pub below : Subtrees
  pub rooted : stands r ≡ also childless root (open_end (left r)) below
  pub place : place_at h.branch h.top ≡ placed root.seq
  pub level : h.top ≡ root.level

pub has_root : (r : Run) (h : History) (f : Open) (above : List Open) → (tree r).branch ≡ f ∷ above → h.top ≡ (top_of f above).level
    → place_at h.branch h.top ≡ placed (top_of f above).seq → Root r h
unfolding standing
has_root r h f above is level place =
    let c = close_top (open_end (left r)) f above in
    record { root = top_of f above; below = c.0; rooted = ap (close_all (open_end (left r))) is ∙ c.1; place = place; level = level }

-- until finish
lines_root : (r : Run) (h : History) (fs : List Open) → (tree r).branch ≡ fs → Some fs → h.top + 1 ≡ h.low + length fs → Lines h.branch 0 h.low fs → Root r h
lines_root r h [] is s top lines = absurd s
lines_root r h (f ∷ above) is s top lines =
    let t = lines_top h.branch 0 h.low f above lines in
    let e : h.top ≡ h.low + length above = omega arith in
    has_root r h f above is (e ∙ sym t.0) (ap (place_at h.branch) e ∙ t.1)

module _ (r : Run) (s : Shape) (σ : Held) (table : List ℕ) (shape : r.shape ≡ shape_of s) (going : (left r).finished ≡ false) (represents : Represents s (tree r) σ) where
  -- "end u64 (2^64-1 while open)"
  shown_open : made r ≡ nodes (close_all ∞ (tree r).branch)
  unfolding standing
  shown_open = ap (λ (b : Bool). nodes (close_all (cond b (left r).latest ∞) (tree r).branch)) going

  pub open_mirrors : sound σ.history ≡ true → long_enough σ.history (length σ.nodes) (length table) ≡ true → σ.history.latest ≡ (left r).latest
      → σ.history.attributes ≡ (left r).attributes → σ.history.finished ≡ false
      → ((q : ℕ) → q < (left r).attributes → ongoing_at table q ≡ ongoing_of ((left r).table q)) → Mirrors r σ.history σ.nodes table
  open_mirrors whole long latest attributes finished entries =
      let h = σ.history in
      let n = represents.numbers in
      let t = lines_root r h (tree r).branch refl represents.some n.top n.lines in
      let bytes : σ.nodes ≡ bytes_of h.shape (made r) ++ drop ((tree r).used * node_size s) σ.nodes =
      represents.bytes
      ∙ (ap (λ z. bytes_of s z ++ drop ((tree r).used * node_size s) σ.nodes) (sym shown_open)
      ∙ ap (λ (z : Shape). bytes_of z (made r) ++ drop ((tree r).used * node_size s) σ.nodes) (sym n.shape))
      in
      record {
        whole = whole;
        long = long;
        shape = shape ∙ ap shape_of (sym n.shape);
        start = n.start ∙ build_start r.shape (left r).start (left r).stored;
        latest = latest;
        attributes = attributes;
        finished = finished ∙ sym going;
        used = n.used;
        rest = drop ((tree r).used * node_size s) σ.nodes;
        bytes = bytes;
        root = t.root;
        below = t.below;
        rooted = t.rooted;
        place = t.place;
        level = t.level;
        entries = λ e. entries;
      }
