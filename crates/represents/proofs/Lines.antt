-- The record's entries of the open levels after each of the four moves, and the headers that are made from them. Assumes nothing.
use Prim.Native.Nat.{ℕ, suc, ◌+◌, ◌*◌, ◌≤◌, ◌<◌}
use mathlib.Core.Bool.{Bool, cond}
use mathlib.Core.Path.{◌≡◌, refl, sym, ap, ◌∙◌, subst}
use mathlib.Core.List.{List, [], ◌∷◌, ◌++◌}
use mathlib.Core.Option.{Option, none, some}
use native.Mathlib.Omega.{arith}
use native.Mathlib.Nat.{add-zero}
use lib.ListN.{length, length-append}
use borrow.Author.Tests.{lt-ltb, le-ltb, ne_eqb}
use Rattle.layout.specs.declared.Seq.{Seq}
use Rattle.layout.specs.declared.Shape.{Shape}
use Rattle.layout.specs.Layout.{node_size}
use Rattle.record.specs.declared.Branch.{Branch}
use Rattle.record.specs.declared.History.{History}
use Rattle.record.specs.Levels.{seq_at, place_at, start_at, intervals_at, children_at, last_end_at}
use Rattle.record.specs.Moves.{level_stored, with_branch, closed, raised, made, stored}
use Rattle.record.specs.Firm.{LevelIs, SameLevel}
use Rattle.record.proofs.Effects.{closed_long, closed_at, closed_other, raised_long, raised_at, raised_other, stored_long, stored_at, stored_other, made_long, made_at, made_parent, made_other}
use Rattle.build.specs.Moves.{parent_at, head_of, stands_at, open_end}
use Rattle.model.specs.Build as M
use Rattle.model.specs.Transient.{Interval}
use Rattle.model.specs.Build.{childless, Open, many, adopt, new_root}
use Rattle.model.specs.Nodes.{entries, node, ∞, state_of}
use Rattle.model.proofs.Passes.{many_entries}
use Rattle.model.proofs.Stood.{shown_as, push, above_of}
use Rattle.represents.specs.Represents.{parent_of, header_of, Line, Lines, Ended, Last, Numbers}

-- ---- headers

pub seq_is : (x : Seq) (n : ℕ) → x.0 ≡ n → x ≡ record { 0 = n }
seq_is x n e = λ i. record { 0 = e i }

-- where a level's node stands
pub stands_at_lem : (s : Shape) (h : History) (l n : ℕ) → h.shape ≡ s → place_at h.branch l ≡ n → stands_at h l ≡ n * node_size s
unfolding stands_at
stands_at_lem s h l n e p = λ i. p i * node_size (e i)

pub parent_none : (h : History) (l : ℕ) → h.top ≤ l → parent_at h l ≡ record { 0 = parent_of none }
unfolding parent_at
parent_none h l le = ap (λ (z : Bool). cond z (seq_at h.branch (l + 1)) (record { 0 = 4294967295 })) (le-ltb l h.top le)

pub parent_some : (h : History) (l p : ℕ) → l < h.top → place_at h.branch (l + 1) ≡ p → parent_at h l ≡ record { 0 = parent_of (some p) }
unfolding parent_at
parent_some h l p lt e =
    ap (λ (z : Bool). cond z (seq_at h.branch (l + 1)) (record { 0 = 4294967295 })) (lt-ltb l h.top lt) ∙ seq_is (seq_at h.branch (l + 1)) p e

-- an open level's parent is the node above it
pub parent_of_lem : (h : History) (c l : ℕ) (f : Open) (above : List Open) → h.top + 1 ≡ l + length (f ∷ above) → Lines h.branch c l (f ∷ above)
    → parent_at h l ≡ record { 0 = parent_of (above_of above) }
parent_of_lem h c l f [] t d = parent_none h l (omega arith)
parent_of_lem h c l f (p ∷ above) t d = parent_some h l p.head.seq (omega arith) d.1.0.1

module _ (h : History) (c l : ℕ) (f : Open) (p : Option ℕ) (is : parent_at h l ≡ record { 0 = parent_of p }) where
  -- an open level's header is that of its node as it is shown, with the entry of its open child
  pub open_head : (child : Option (ℕ × ℕ)) → Line h.branch c l f → length (push child (entries f.closed)) ≡ c + many f.closed
      → head_of h l open_end 1 ≡ header_of (shown_as p ∞ child f)
  unfolding head_of
  open_head child d k = λ i. record {
    start = d.2 i;
    end = ∞;
    sequence = seq_is (seq_at h.branch l) f.head.seq d.1 i;
    parent = is i;
    intervals = d.3 i;
    children = (d.4 ∙ sym k) i;
    level = sym d.0 i;
    state = 1;
  }

  -- and when it closes, that of the closed node
  pub shut_head : (x e : ℕ) → Line h.branch 0 l f → x ≡ e → e < ∞ → head_of h l x 2 ≡ header_of (node p f.head e f.closed)
  unfolding head_of
  shut_head x e d z lt =
      let kids : children_at h.branch l ≡ length (entries f.closed) = d.4 ∙ omega (arith, many_entries f.closed) in
      let state : 2 ≡ state_of e = ap (λ (b : Bool). cond b 1 2) (sym (ne_eqb e ∞ (λ y. omega arith))) in
      λ i. record {
        start = d.2 i;
        end = z i;
        sequence = seq_is (seq_at h.branch l) f.head.seq d.1 i;
        parent = is i;
        intervals = d.3 i;
        children = kids i;
        level = sym d.0 i;
        state = state i;
      }

-- ---- levels that a move leaves

pub line_keep : (v w : Branch) (c l : ℕ) (f : Open) → SameLevel w v l → Line v c l f → Line w c l f
line_keep v w c l f e d = (d.0, e.at_place ∙ d.1, e.at_start ∙ d.2, e.at_intervals ∙ d.3, e.at_children ∙ d.4)

lines_keep : (v w : Branch) (c l : ℕ) (fs : List Open) → ((j : ℕ) → l ≤ j → SameLevel w v j) → Lines v c l fs → Lines w c l fs
lines_keep v w c l [] e d = tt
lines_keep v w c l (f ∷ above) e d =
    (line_keep v w c l f (e l (omega arith)) d.0, lines_keep v w 1 (l + 1) above (λ j le. e j (omega arith)) d.1)

-- the entries from f up
lines_up : (b : Branch) (l : ℕ) (below : List Open) (f : Open) (above : List Open) → Lines b 1 l (below ++ f ∷ above) → Lines b 1 (l + length below) (f ∷ above)
lines_up b l [] f above d = subst (λ (z : ℕ). Lines b 1 z (f ∷ above)) (sym (add-zero l)) d
lines_up b l (g ∷ below) f above d =
    let e : l + 1 + length below ≡ l + suc (length below) = omega arith in
    subst (λ (z : ℕ). Lines b 1 z (f ∷ above)) e (lines_up b (l + 1) below f above d.1)

-- 1 if there is an open child
abbrev pub counted : List Open → ℕ
counted [] = 0
counted (g ∷ below) = 1

pub lines_at : (b : Branch) (l : ℕ) (below : List Open) (f : Open) (above : List Open) → Lines b 0 l (below ++ f ∷ above)
    → Lines b (counted below) (l + length below) (f ∷ above)
lines_at b l [] f above d = subst (λ (z : ℕ). Lines b 0 z (f ∷ above)) (sym (add-zero l)) d
lines_at b l (g ∷ below) f above d =
    let e : l + 1 + length below ≡ l + suc (length below) = omega arith in
    subst (λ (z : ℕ). Lines b 1 z (f ∷ above)) e (lines_up b (l + 1) below f above d.1)

-- ---- 1. close

pub numbers_close : (s : Shape) (o S q : ℕ) (f p : Open) (above : List Open) (h : History) → Numbers s o S q (f ∷ p ∷ above) h
    → Numbers s o S q (adopt S f p ∷ above) (closed h)
unfolding closed with_branch
numbers_close s o S q f p above h n =
    let d = n.lines.1 in
    let x = closed_at h n.long (omega (arith, n.top, n.shallow)) in
    record {
      shape = n.shape;
      start = n.start;
      largest = n.largest;
      used = n.used;
      top = omega (arith, n.top);
      shallow = n.shallow;
      lines = (
        (d.0.0, x.at_place ∙ d.0.1, x.at_start ∙ d.0.2, x.at_intervals ∙ d.0.3, x.at_children ∙ d.0.4 ∙ omega arith),
        lines_keep h.branch _ 1 (h.low + 1 + 1) above (λ j le. closed_other h j (λ y. omega arith)) d.1,
      );
      last = x.at_last_end ∙ n.largest;
      long = closed_long h n.long;
    }

-- ---- 2. raise

pub numbers_raise : (s : Shape) (o S q : ℕ) (f : Open) (h : History) → h.top < 15 → Numbers s o S q (f ∷ []) h
    → Numbers s o S (suc q) (new_root o S q f ∷ []) (raised h)
unfolding raised with_branch
numbers_raise s o S q f h lt n =
    let x = raised_at h n.long lt in
    record {
      shape = n.shape;
      start = n.start;
      largest = n.largest;
      used = omega (arith, n.used);
      top = omega arith;
      shallow = omega arith;
      lines = ((omega (arith, n.lines.0.0, n.top), x.at_place ∙ n.used, x.at_start ∙ n.start, x.at_intervals, x.at_children), tt);
      last = x.at_last_end ∙ n.largest;
      long = raised_long h n.long;
    }

-- the old root's entries, under the new root
pub line_raise : (s : Shape) (o S q : ℕ) (f : Open) (h : History) → Numbers s o S q (f ∷ []) h → Line (raised h).branch 0 h.top f
line_raise s o S q f h n =
    let e : h.low ≡ h.top = omega (arith, n.top) in
    line_keep h.branch (raised h).branch 0 h.top f (raised_other h h.top (λ y. omega arith)) (subst (λ (z : ℕ). Line h.branch 0 z f) e n.lines.0)

-- ---- 3. make

-- a node that is new: no interval, no child
abbrev pub child : ℕ → ℕ → ℕ → Open
child l q a = record { head = record { level = l; seq = q; start = a; held = [] }; closed = childless }

pub numbers_make : (s : Shape) (o S q a l : ℕ) (f : Open) (above : List Open) (h : History) → h.low ≡ l + 1 → Numbers s o S q (f ∷ above) h
    → Numbers s o S (suc q) (child l q a ∷ f ∷ above) (made h a l)
unfolding made with_branch
numbers_make s o S q a l f above h e n =
    let d : Lines h.branch 0 (l + 1) (f ∷ above) = subst (λ (z : ℕ). Lines h.branch 0 z (f ∷ above)) e n.lines in
    let small : l < 15 = omega (arith, n.top, n.shallow) in
    let x = made_at h l a n.long (omega arith) in
    let y = made_parent h l a n.long small in
    record {
      shape = n.shape;
      start = n.start;
      largest = n.largest;
      used = omega (arith, n.used);
      top = omega (arith, n.top);
      shallow = n.shallow;
      lines = (
        (refl, x.at_place ∙ n.used, x.at_start, x.at_intervals, x.at_children),
        (
          (d.0.0, y.at_place ∙ d.0.1, y.at_start ∙ d.0.2, y.at_intervals ∙ d.0.3, y.at_children ∙ omega (arith, d.0.4)),
          lines_keep h.branch _ 1 (l + 1 + 1) above (λ j le. made_other h l a j (λ z. omega arith) (λ z. omega arith)) d.1,
        ),
      );
      last = tt;
      long = made_long h l a n.long;
    }

-- ---- 4. store

-- level m has one more interval
abbrev More : Branch → Branch → ℕ → Type 0
More w v m = LevelIs w m (place_at v m) (start_at v m) (intervals_at v m + 1) (children_at v m) (last_end_at v m)

module _ (v w : Branch) (x : Interval) (m : ℕ) (f : Open) (above : List Open) (at : More w v m) (other : (j : ℕ) → (j ≡ m → ⊥) → SameLevel w v j) where
  lines_store : (c l : ℕ) (below : List Open) → m ≡ l + length below → Lines v c l (below ++ f ∷ above) → Lines w c l (below ++ M.store x f ∷ above)
  lines_store c l [] e d =
      let same : m ≡ l = omega arith in
      let y = subst (λ (z : ℕ). More w v z) same at in (
        (d.0.0, y.at_place ∙ d.0.1, y.at_start ∙ d.0.2, y.at_intervals ∙ omega (arith, d.0.3, length-append f.head.held (x ∷ [])), y.at_children ∙ d.0.4),
        lines_keep v w 1 (l + 1) above (λ j le. other j (λ z. omega arith)) d.1,
      )
  lines_store c l (g ∷ below) e d = (line_keep v w c l g (other l (λ z. omega arith)) d.0, lines_store 1 (l + 1) below (omega arith) d.1)

last_store : (v w : Branch) (x : Interval) (l : ℕ) (below : List Open) (f : Open) (above : List Open) → last_end_at w l ≡ last_end_at v l
    → Last v l (below ++ f ∷ above) → Last w l (below ++ M.store x f ∷ above)
last_store v w x l [] f above e d = subst (λ (z : ℕ). Ended z f.closed) (sym e) d
last_store v w x l (g ∷ below) f above e d = subst (λ (z : ℕ). Ended z g.closed) (sym e) d

same_last : (h : History) (l j : ℕ) → last_end_at (stored h l).branch j ≡ last_end_at h.branch j
unfolding stored with_branch level_stored
same_last h l j = refl

pub numbers_store : (x : Interval) (s : Shape) (o S q l : ℕ) (below : List Open) (f : Open) (above : List Open) (h : History) → l ≡ h.low + length below
    → Numbers s o S q (below ++ f ∷ above) h → Numbers s o S q (below ++ M.store x f ∷ above) (stored h l)
unfolding stored with_branch
numbers_store x s o S q l below f above h e n =
    let a = length-append below (f ∷ above) in
    let b = length-append below (M.store x f ∷ above) in
    record {
      shape = n.shape;
      start = n.start;
      largest = n.largest;
      used = n.used;
      top = omega (arith, n.top, a, b);
      shallow = n.shallow;
      lines = lines_store h.branch (stored h l).branch x l f above (stored_at h l n.long (omega (arith, n.shallow, n.top, a))) (stored_other h l) 0 h.low below e n.lines;
      last = last_store h.branch (stored h l).branch x h.low below f above (same_last h l h.low) n.last;
      long = stored_long h l n.long;
    }
