-- What each step of storing writes: one node is set at its place, and new ones are put at the end. For the proofs about node bytes.
use Prim.Native.Nat.{ℕ, ◌<◌}
use mathlib.Core.Path.{◌≡◌, refl, sym, ap, ◌∙◌}
use mathlib.Core.List.{List, [], ◌∷◌, ◌++◌}
use mathlib.Core.Option.{Option, none, some}
use native.Mathlib.Omega.{arith}
use lib.ListN.{length, set, length-append}
use lib.Seq.{set_at, get_or-append_seam}
use Rattle.model.specs.Transient.{Interval}
use Rattle.model.specs.Build.{Head, childless, Open, store, adopt, new_root}
use Rattle.model.specs.Nodes.{close_up, Node, node, preorder, nodes, blank, upto, seqs}
use Rattle.model.proofs.ByPlace.{place_at}
use Rattle.model.proofs.Places.{Root, Firm, adopt_firm}
use Rattle.model.proofs.Stood.{shown_as, entry, above_of, line, line_adopt, close_up_line, spine_focus, holding, Focus, line_focus, last_of, FocusIn, focus_in}

-- a node among numbered ones is set at its number
set_place : (k : ℕ) (A : List Node) (X : Node) (B : List Node) (Y : Node) → seqs (A ++ X ∷ B) ≡ upto k → set (A ++ X ∷ B) X.seq Y ≡ A ++ Y ∷ B
set_place k A X B Y e =
    let h : length A < length (A ++ X ∷ B) = omega (arith, length-append A (X ∷ B)) in
    set_at A X B Y X.seq (sym (place_at k (A ++ X ∷ B) (length A) e h) ∙ ap (λ n. n.seq) (get_or-append_seam A X B blank))

module _ (k e : ℕ) (f : Open) (above : List Open) (numbered : seqs (nodes (close_up e f above)) ≡ upto k) (firm : Firm f above) where
  -- the lowest node, set: it takes an interval, or the entry of a child
  set_lowest : (c : Option (ℕ × ℕ)) (xs : List Interval)
      → line e c (holding xs f) above ≡ set (nodes (close_up e f above)) f.head.seq (shown_as (above_of above) e c (holding xs f))
  unfolding Focus
  set_lowest c xs =
      let i = line_focus e f above in
      let X = shown_as (above_of above) e none f in
      let Y = shown_as (above_of above) e c (holding xs f) in
      let u = close_up_line e f above firm ∙ i.2 none f.head.held in
      i.2 c xs ∙ (sym (set_place k i.0 X i.1 Y (sym (ap seqs u) ∙ numbered)) ∙ ap (λ z. set z f.head.seq Y) (sym u))

root_firm : (f : Open) (above : List Open) → Root f above → Firm f above
root_firm f [] r = λ x. r
root_firm f (p ∷ above) r = r

store_firm : (iv : Interval) (f : Open) (above : List Open) → Firm f above → Firm (store iv f) above
store_firm iv f [] x = x
store_firm iv f (p ∷ above) x = x

-- closing the lowest node with the end S
pub write_close : (k S e : ℕ) (f p : Open) (above : List Open) → seqs (nodes (close_up e f (p ∷ above))) ≡ upto k → Firm f (p ∷ above)
    → nodes (close_up e (adopt S f p) above) ≡ set (nodes (close_up e f (p ∷ above))) f.head.seq (node (some p.head.seq) f.head S f.closed)
write_close k S e f p above num x =
    let A = line e (entry f) p above in
    let B = preorder (some f.head.seq) f.closed in
    let Y = node (some p.head.seq) f.head S f.closed in
    let u = close_up_line e f (p ∷ above) x in
    (close_up_line e (adopt S f p) above (adopt_firm S f p above x) ∙ line_adopt S e f p above x)
    ∙ (sym (set_place k A (shown_as (some p.head.seq) e none f) B Y (sym (ap seqs u) ∙ num)) ∙ ap (λ z. set z f.head.seq Y) (sym u))

-- a new root q on top of the old one, which is closed with the end S and learns its parent
pub write_raise : (k S e o q : ℕ) (f : Open) → seqs (nodes (close_up e f [])) ≡ upto k
    → let r = new_root o S q f in
    nodes (close_up e r []) ≡ set (nodes (close_up e f [])) f.head.seq (node (some q) f.head S f.closed) ++ node none r.head e r.closed ∷ []
write_raise k S e o q f num =
    let i = spine_focus f.head.seq f.closed in
    let X = node none f.head e f.closed in
    let Y = node (some q) f.head S f.closed in
    let r = new_root o S q f in
    let w = set_place k i.0 X i.1 Y (sym (ap seqs (i.2 X refl)) ∙ num) in
    ap (λ z. z ++ node none r.head e r.closed ∷ []) (i.2 Y refl ∙ (sym w ∙ ap (λ z. set z f.head.seq Y) (sym (i.2 X refl))))

-- a new node g below the lowest
pub write_grow : (k e : ℕ) (f : Open) (above : List Open) (h : Head) → seqs (nodes (close_up e f above)) ≡ upto k → Root f above
    → let g : Open = record { head = h; closed = childless } in
    nodes (close_up e g (f ∷ above))
    ≡ set (nodes (close_up e f above)) f.head.seq (shown_as (above_of above) e (entry g) f) ++ shown_as (some f.head.seq) e none g ∷ []
write_grow k e f above h num r = let g : Open = record { head = h; closed = childless } in
    close_up_line e g (f ∷ above) r
    ∙ ap (λ z. z ++ shown_as (some f.head.seq) e none g ∷ []) (set_lowest k e f above num (root_firm f above r) (entry g) f.head.held)

-- an interval stored in the lowest node
pub write_lowest : (k e : ℕ) (iv : Interval) (f : Open) (above : List Open) → seqs (nodes (close_up e f above)) ≡ upto k → Firm f above
    → nodes (close_up e (store iv f) above) ≡ set (nodes (close_up e f above)) f.head.seq (shown_as (above_of above) e none (store iv f))
write_lowest k e iv f above num x =
    close_up_line e (store iv f) above (store_firm iv f above x) ∙ set_lowest k e f above num x none (f.head.held ++ iv ∷ [])

pub write_upper : (k e : ℕ) (iv : Interval) (g : Open) (below : List Open) (f : Open) (above : List Open)
    → seqs (nodes (close_up e g (below ++ f ∷ above))) ≡ upto k
    → Firm g (below ++ f ∷ above) → Firm g (below ++ store iv f ∷ above)
    → nodes (close_up e g (below ++ store iv f ∷ above))
    ≡ set (nodes (close_up e g (below ++ f ∷ above))) f.head.seq (shown_as (above_of above) e (entry (last_of g below)) (store iv f))
unfolding FocusIn
write_upper k e iv g below f above num x x' =
    let i = focus_in e none g below f above in let Y = shown_as (above_of above) e (entry (last_of g below)) (store iv f) in
    let u = close_up_line e g (below ++ f ∷ above) x ∙ i.2 f.head.held in
    (close_up_line e g (below ++ store iv f ∷ above) x' ∙ i.2 (f.head.held ++ iv ∷ []))
    ∙ (sym (set_place k i.0 (shown_as (above_of above) e (entry (last_of g below)) f) i.1 Y (sym (ap seqs u) ∙ num)) ∙ ap (λ z. set z f.head.seq Y) (sym u))

-- the root, when all else is closed: its end alone changes
pub write_root : (k e T : ℕ) (f : Open) → seqs (nodes (close_up e f [])) ≡ upto k
    → nodes (close_up T f []) ≡ set (nodes (close_up e f [])) f.head.seq (node none f.head T f.closed)
write_root k e T f num =
    let i = spine_focus f.head.seq f.closed in let X = node none f.head e f.closed in let Y = node none f.head T f.closed in
    i.2 Y refl ∙ (sym (set_place k i.0 X i.1 Y (sym (ap seqs (i.2 X refl)) ∙ num)) ∙ ap (λ z. set z f.head.seq Y) (sym (i.2 X refl)))
