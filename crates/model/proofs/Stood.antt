-- Where an open node stands in the list of the nodes: at its sequence number, whatever it holds. For the proofs about node bytes.
use Prim.Native.Nat.{ℕ, ◌<◌}
use mathlib.Core.Path.{◌≡◌, refl, sym, ap, ◌∙◌}
use mathlib.Core.List.{List, [], ◌∷◌, ◌++◌, append_assoc}
use mathlib.Core.Option.{Option, none, some}
use native.Mathlib.Omega.{arith}
use lib.ListN.{length, length-append}
use lib.Seq.{get_or-append_seam}
use Rattle.model.specs.Transient.{Interval}
use Rattle.model.specs.Build.{Subtrees, childless, also, Open, adopt}
use Rattle.model.specs.Nodes.{close_up, Node, entries, node, preorder, if_childless, spine, nodes, blank, upto, seqs}
use Rattle.model.specs.Invariant.{HasChild}
use Rattle.model.proofs.ByPlace.{place_at}
use Rattle.model.proofs.Places.{Root, Firm, adopt_firm}

abbrev pub push : Option (ℕ × ℕ) → List (ℕ × ℕ) → List (ℕ × ℕ)
push none xs = xs
push (some c) xs = xs ++ c ∷ []

-- an open node as it is shown, with the parent p, the end e, and the entry c of its open child
abbrev pub shown_as : Option ℕ → ℕ → Option (ℕ × ℕ) → Open → Node
shown_as p e c f =
    record { level = f.head.level; seq = f.head.seq; start = f.head.start; end = e; parent = p; children = push c (entries f.closed); held = f.head.held }

abbrev pub entry : Open → Option (ℕ × ℕ)
entry f = some (f.head.seq, f.head.start)

abbrev pub above_of : List Open → Option ℕ
above_of [] = none
above_of (p ∷ above) = some p.head.seq

-- the nodes of an open branch by places, f the lowest and c the entry of a child that is to come
abbrev pub line : ℕ → Option (ℕ × ℕ) → Open → List Open → List Node
line e c f [] = spine (shown_as none e c f) f.closed
line e c f (p ∷ above) = line e (entry f) p above ++ shown_as (some p.head.seq) e c f ∷ preorder (some f.head.seq) f.closed

pub line_adopt : (S e : ℕ) (f p : Open) (above : List Open) → Root p above
    → line e none (adopt S f p) above ≡ line e (entry f) p above ++ node (some p.head.seq) f.head S f.closed ∷ preorder (some f.head.seq) f.closed
line_adopt S e f p [] r = go p.closed r
  where
    go : (k : Subtrees) → HasChild k → let X = shown_as none e none (adopt S f (record { head = p.head; closed = k })) in
        if_childless k (spine (node (some p.head.seq) f.head S f.closed) f.closed ++ X ∷ [])
        (spine X k ++ node (some p.head.seq) f.head S f.closed ∷ preorder (some f.head.seq) f.closed)
        ≡ spine X k ++ node (some p.head.seq) f.head S f.closed ∷ preorder (some f.head.seq) f.closed
    go childless x = absurd x
    go (also ks h e k) x = refl
line_adopt S e f p (r ∷ above) x = sym (append_assoc (line e (entry p) r above) _ _)

pub close_up_line : (e : ℕ) (f : Open) (above : List Open) → Firm f above → nodes (close_up e f above) ≡ line e none f above
close_up_line e f [] x = refl
close_up_line e f (p ∷ above) x = close_up_line e (adopt e f p) above (adopt_firm e f p above x) ∙ line_adopt e e f p above x

-- where a node stands in a spine does not depend on what it holds
pub spine_focus : (q : ℕ) (ks : Subtrees) → (A : List Node) × (B : List Node) × ((x : Node) → x.seq ≡ q → spine x ks ≡ A ++ x ∷ B)
spine_focus q childless = ([], [], λ x e. refl)
spine_focus q (also ks h e k) = go ks (spine_focus q ks)
  where
    n : Node
    n = node (some q) h e k

    go : (ks : Subtrees) → (A : List Node) × (B : List Node) × ((x : Node) → x.seq ≡ q → spine x ks ≡ A ++ x ∷ B)
        → (A : List Node) × (B : List Node) × ((x : Node) → x.seq ≡ q → spine x (also ks h e k) ≡ A ++ x ∷ B)
    go childless i = (spine n k, [], λ x w. ap (λ z. spine (node (some z) h e k) k ++ x ∷ []) w)
    go (also ks h' e' k') i = (
      i.0,
      i.1 ++ n ∷ preorder (some h.seq) k,
      λ x w. ap (λ z. spine x (also ks h' e' k') ++ node (some z) h e k ∷ preorder (some h.seq) k) w
          ∙ (ap (λ z. z ++ n ∷ preorder (some h.seq) k) (i.2 x w) ∙ append_assoc i.0 (x ∷ i.1) (n ∷ preorder (some h.seq) k)),
    )

abbrev pub holding : List Interval → Open → Open
holding xs f = record { head = record { level = f.head.level; seq = f.head.seq; start = f.head.start; held = xs }; closed = f.closed }

unfoldable pub Focus : ℕ → Open → List Open → Type 0
Focus e f above =
    (A : List Node) × (B : List Node)
    × ((c : Option (ℕ × ℕ)) (xs : List Interval) → line e c (holding xs f) above ≡ A ++ shown_as (above_of above) e c (holding xs f) ∷ B)

pub line_focus : (e : ℕ) (f : Open) (above : List Open) → Focus e f above
unfolding Focus
line_focus e f [] = let i = spine_focus f.head.seq f.closed in (i.0, i.1, λ c xs. i.2 (shown_as none e c (holding xs f)) refl)
line_focus e f (p ∷ above) = (line e (entry f) p above, preorder (some f.head.seq) f.closed, λ c xs. refl)

-- the same of a node that has open ones below it
abbrev pub last_of : Open → List Open → Open
last_of g [] = g
last_of g (g' ∷ below) = last_of g' below

unfoldable pub FocusIn : ℕ → Option (ℕ × ℕ) → Open → List Open → Open → List Open → Type 0
FocusIn e c g below f above =
    (A : List Node) × (B : List Node)
    × ((xs : List Interval) → line e c g (below ++ holding xs f ∷ above) ≡ A ++ shown_as (above_of above) e (entry (last_of g below)) (holding xs f) ∷ B)

pub focus_in : (e : ℕ) (c : Option (ℕ × ℕ)) (g : Open) (below : List Open) (f : Open) (above : List Open) → FocusIn e c g below f above
unfolding FocusIn Focus
focus_in e c g [] f above = let i = line_focus e f above in let R = shown_as (some f.head.seq) e c g ∷ preorder (some g.head.seq) g.closed in
    (i.0, i.1 ++ R, λ xs. ap (λ z. z ++ R) (i.2 (entry g) xs) ∙ append_assoc i.0 (shown_as (above_of above) e (entry g) (holding xs f) ∷ i.1) R)
focus_in e c g (g' ∷ below) f above =
    let i = focus_in e (entry g) g' below f above in let R = shown_as (some g'.head.seq) e c g ∷ preorder (some g.head.seq) g.closed in
    (i.0, i.1 ++ R, λ xs. ap (λ z. z ++ R) (i.2 xs) ∙ append_assoc i.0 (shown_as (above_of above) e (entry (last_of g' below)) (holding xs f) ∷ i.1) R)

at_own : (k : ℕ) (A : List Node) (X : Node) (B : List Node) → seqs (A ++ X ∷ B) ≡ upto k → length A ≡ X.seq
at_own k A X B e = let h : length A < length (A ++ X ∷ B) = omega (arith, length-append A (X ∷ B)) in
    sym (place_at k (A ++ X ∷ B) (length A) e h) ∙ ap (λ n. n.seq) (get_or-append_seam A X B blank)

-- X stands in ns at its number
pub record Stood (ns : List Node) (X : Node) : Type 0 where
  pub before : List Node
  pub after : List Node
  pub here : ns ≡ before ++ X ∷ after
  pub place : length before ≡ X.seq

pub find_lowest : (k e : ℕ) (f : Open) (above : List Open) → seqs (nodes (close_up e f above)) ≡ upto k → Firm f above
    → Stood (nodes (close_up e f above)) (shown_as (above_of above) e none f)
unfolding Focus
find_lowest k e f above num x = let i = line_focus e f above in let u = close_up_line e f above x ∙ i.2 none f.head.held in
    record { before = i.0; after = i.1; here = u; place = at_own k i.0 (shown_as (above_of above) e none f) i.1 (sym (ap seqs u) ∙ num) }

pub find_upper : (k e : ℕ) (g : Open) (below : List Open) (f : Open) (above : List Open) → seqs (nodes (close_up e g (below ++ f ∷ above))) ≡ upto k
    → Firm g (below ++ f ∷ above)
    → Stood (nodes (close_up e g (below ++ f ∷ above))) (shown_as (above_of above) e (entry (last_of g below)) f)
unfolding FocusIn
find_upper k e g below f above num x = let i = focus_in e none g below f above in let u = close_up_line e g (below ++ f ∷ above) x ∙ i.2 f.head.held in
    record { before = i.0; after = i.1; here = u; place = at_own k i.0 (shown_as (above_of above) e (entry (last_of g below)) f) i.1 (sym (ap seqs u) ∙ num) }

-- and the root of what is shown is the last of the branch
last_adopt : (e : ℕ) (f p : Open) (above : List Open) → (last_of (adopt e f p) above).head ≡ (last_of p above).head
last_adopt e f p [] = refl
last_adopt e f p (r ∷ above) = refl

pub root_last : (e : ℕ) (f : Open) (above : List Open) → (k : Subtrees) × (close_up e f above ≡ also childless (last_of f above).head e k)
root_last e f [] = (f.closed, refl)
root_last e f (p ∷ above) =
    let i = root_last e (adopt e f p) above in (i.0, i.1 ∙ ap (λ h. also childless h e i.0) (last_adopt e f p above))
