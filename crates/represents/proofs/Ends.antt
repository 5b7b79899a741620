-- Opening makes node 0; finish closes all open nodes with the end T. Assumes nothing.
use Prim.Native.Nat.{ℕ, ◌+◌, ◌-◌, ◌*◌, ◌≤◌, ◌<◌}
use mathlib.Core.Path.{◌≡◌, refl, sym, ap, ◌∙◌, subst}
use mathlib.Core.List.{List, [], ◌∷◌, ◌++◌}
use mathlib.Core.Option.{none, some}
use native.Mathlib.Omega.{arith}
use native.Mathlib.Nat.{zero-mul}
use lib.ListN.{length, drop}
use lib.Seq.{drop_at}
use Rattle.layout.specs.declared.Shape.{Shape}
use Rattle.layout.specs.Layout.{node_size, encode, encode_all, new_node}
use Rattle.record.specs.declared.History.{History}
use Rattle.build.specs.Moves.{Held, held, head_of, stands_at, put_head, put_new}
use Rattle.build.specs.Write as W
use Rattle.build.proofs.Steps.{planted_length}
use Rattle.model.specs.Build.{childless, Open, build, Tree, planted, adopt}
use Rattle.model.specs.Nodes.{close_all, close_up, nodes, Node, node, ∞}
use Rattle.model.specs.Invariant.{Shaped, Some}
use Rattle.model.proofs.Places.{Counted, adopt_order, adopt_firm}
use Rattle.model.proofs.Ready.{ready_numbers, ready_built}
use Rattle.model.proofs.Stood.{shown_as}
use Rattle.model.proofs.Writes.{write_close, write_root}
use Rattle.represents.specs.Represents.{shape_of, bytes_of, Lines, Numbers, Represents}
use Rattle.represents.proofs.Lines.{stands_at_lem, parent_of_lem, open_head, shut_head}
use Rattle.represents.proofs.Bytes.{header_written, length_bytes, node_appended}
use Rattle.represents.proofs.Moves.{found}

-- ---- opening

-- a record that is just opened at a, with one node and nothing in it
pub opened_represents : (s : Shape) (a : ℕ) (h : History) (b : List ℕ) → Numbers s a a 1 (planted a).branch h → Shaped (shape_of s) → 1 ≤ s.n
    → s.n * node_size s ≤ length b → a < ∞ → Represents s (planted a) (held h (W.planted h b))
unfolding W.planted put_new new_node encode_all build
opened_represents s a h b n shaped one room small =
    let f : Open = record { head = record { level = 0; seq = 0; start = a; held = [] }; closed = childless } in
    let Y = shown_as none ∞ none f in
    let none_yet : b ≡ bytes_of s [] ++ drop (0 * node_size s) b = ap (λ (z : ℕ). drop z b) (sym (zero-mul (node_size s))) in
    let lines : Lines h.branch 0 0 (f ∷ []) = subst (λ (l : ℕ). Lines h.branch 0 l (f ∷ [])) (sym n.lines.0.0) n.lines in
    let head = open_head h 0 0 f none (parent_of_lem h 0 0 f [] (omega (arith, n.top, n.lines.0.0)) lines) none lines.0 refl in
    let is : W.planted h b ≡ bytes_of s (Y ∷ []) ++ drop (1 * node_size s) b =
    node_appended s 0 b [] Y b (stands_at h 0) _ none_yet refl one room (stands_at_lem s h 0 0 n.shape lines.0.1)
    (λ i. encode (n.shape i) (record { header = head i; children = []; entries = [] })) in
    let beyond : drop (1 * node_size s) (W.planted h b) ≡ drop (1 * node_size s) b =
    ap (λ (z : List ℕ). drop (1 * node_size s) z) is ∙ drop_at (bytes_of s (Y ∷ [])) (drop (1 * node_size s) b) (1 * node_size s) (length_bytes s 1 (Y ∷ []) refl) in
    record {
      numbers = n;
      bytes = is ∙ ap (λ (z : List ℕ). bytes_of s (Y ∷ []) ++ z) (sym beyond);
      room = omega (arith, room, planted_length h b);
      within = one;
      shaped = shaped;
      ready = ready_built (shape_of s) a [] shaped tt;
      some = tt;
      small = small;
    }

-- ---- finish

module _ (s : Shape) (T q : ℕ) (rest : List ℕ) (h : History) (shape : h.shape ≡ s) (small : T < ∞) where
  close_levels : (f : Open) (above : List Open) (l : ℕ) (b : List ℕ) → h.top + 1 ≡ l + length (f ∷ above) → Lines h.branch 0 l (f ∷ above) → Counted q (f ∷ above)
      → b ≡ bytes_of s (nodes (close_all ∞ (f ∷ above))) ++ rest → W.close_all h T (length (f ∷ above)) l b ≡ bytes_of s (nodes (close_all T (f ∷ above))) ++ rest
  unfolding W.close_all put_head Counted
  close_levels f [] l b top d c e =
      let num = ready_numbers ∞ q (f ∷ []) c in
      header_written s (nodes (close_up ∞ f [])) (shown_as none ∞ none f) (node none f.head T f.closed) rest b (stands_at h l) (head_of h l T 2) (found q [] f [] c) e
      (stands_at_lem s h l f.head.seq shape d.0.1) (shut_head h 0 l f none (parent_of_lem h 0 l f [] top d) T T d.0 refl small) refl refl
      ∙ ap (λ (z : List Node). bytes_of s z ++ rest) (sym (write_root q ∞ T f num))
  close_levels f (p ∷ above) l b top d c e =
      let num = ready_numbers ∞ q (f ∷ p ∷ above) c in
      let x = d.1.0 in
      close_levels (adopt T f p) above (l + 1) (put_head h l T 2 b) (omega (arith, top)) ((x.0, x.1, x.2, x.3, x.4 ∙ omega arith), d.1.1)
      (adopt_order T f p above c.1 ∙ c.0, adopt_firm T f p above c.1)
      (header_written s (nodes (close_up ∞ f (p ∷ above))) (shown_as (some p.head.seq) ∞ none f) (node (some p.head.seq) f.head T f.closed) rest b (stands_at h l) (head_of h l T 2)
      (found q [] f (p ∷ above) c) e (stands_at_lem s h l f.head.seq shape d.0.1) (shut_head h 0 l f (some p.head.seq) (parent_of_lem h 0 l f (p ∷ above) top d) T T d.0 refl small) refl refl
      ∙ ap (λ (z : List Node). bytes_of s z ++ rest) (sym (write_close q T ∞ f p above num c.1)))

-- the nodes as the model shows them, closed with T
pub closed_all : (s : Shape) (T : ℕ) (t : Tree) (σ : Held) → T < ∞ → Represents s t σ
    → W.close_all σ.history T (σ.history.top + 1 - σ.history.low) σ.history.low σ.nodes ≡ bytes_of s (nodes (close_all T t.branch)) ++ drop (t.used * node_size s) σ.nodes
closed_all s T t σ small rep = go t.branch rep.some rep.numbers.top rep.numbers.lines rep.ready.counted rep.bytes
  where
    h : History
    h = σ.history

    rest : List ℕ
    rest = drop (t.used * node_size s) σ.nodes

    go : (fs : List Open) → Some fs → h.top + 1 ≡ h.low + length fs → Lines h.branch 0 h.low fs → Counted t.used fs
        → σ.nodes ≡ bytes_of s (nodes (close_all ∞ fs)) ++ rest
        → W.close_all h T (h.top + 1 - h.low) h.low σ.nodes ≡ bytes_of s (nodes (close_all T fs)) ++ rest
    go [] x top d c e = absurd x
    go (f ∷ above) x top d c e =
        let n : h.top + 1 - h.low ≡ length (f ∷ above) = omega (arith, top) in
        ap (λ (z : ℕ). W.close_all h T z h.low σ.nodes) n ∙ close_levels s T t.used rest h rep.numbers.shape small f above h.low σ.nodes top d c e
