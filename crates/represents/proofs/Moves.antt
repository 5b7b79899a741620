-- Each of the four moves of record and bytes is the model's. Assumes nothing.
use Prim.Native.Nat.{ℕ, suc, ◌+◌, ◌*◌, ◌≤◌, ◌<◌}
use mathlib.Core.Path.{◌≡◌, refl, sym, ap, ◌∙◌, subst}
use mathlib.Core.List.{List, [], ◌∷◌, ◌++◌}
use mathlib.Core.Option.{Option, none, some}
use native.Mathlib.Omega.{arith}
use lib.ListN.{length, set, drop, length-append, length-set}
use Rattle.std.specs.Prelude.{Some}
use Rattle.layout.specs.declared.Shape.{Shape}
use Rattle.layout.specs.Layout.{node_size, encode, new_node}
use Rattle.record.specs.declared.History.{History}
use Rattle.record.specs.Levels.{seq_at, start_at, intervals_at, children_at}
use Rattle.record.specs.Moves.{with_branch, raised, made, stored}
use Rattle.record.proofs.Effects.{raised_at}
use Rattle.build.specs.Moves.{Held, parent_at, head_of, stands_at, open_end, put_head, put_new, close, raise, with_child, make, store}
use Rattle.model.specs.Build as M
use Rattle.model.specs.Transient.{Interval}
use Rattle.model.specs.Build.{Subtrees, Open, many, adopt, new_root}
use Rattle.model.specs.Nodes.{close_all, close_up, nodes, Node, entries, node, ∞}
use Rattle.model.proofs.Passes.{many_entries}
use Rattle.model.proofs.Places.{Root, Counted, store_counted, store_in, adopt_order, adopt_firm}
use Rattle.model.proofs.Ready.{ready_numbers, count_grow}
use Rattle.model.proofs.Stood.{shown_as, push, entry, above_of, last_of, Stood, find_lowest, find_upper}
use Rattle.model.proofs.Writes.{write_close, write_raise, write_grow, write_lowest, write_upper}
use Rattle.represents.specs.Represents.{parent_of, entry_of, node_of, bytes_of, Line, Lines, Numbers}
use Rattle.represents.proofs.Lines.{seq_is, stands_at_lem, parent_none, parent_some, parent_of_lem, open_head, shut_head, line_raise, lines_at, counted, child, numbers_close, numbers_raise, numbers_make, numbers_store}
use Rattle.represents.proofs.Bytes.{header_written, child_written, entry_written, many_nodes, node_appended}

-- Record and bytes between two moves. b is the buffer as it came: behind the nodes used, its bytes still stand.
pub record StandsFor (s : Shape) (b : List ℕ) (o S q : ℕ) (fs : List Open) (σ : Held) : Type 0 where
  pub numbers : Numbers s o S q fs σ.history
  pub bytes : σ.nodes ≡ bytes_of s (nodes (close_all ∞ fs)) ++ drop (q * node_size s) b
  pub room : s.n * node_size s ≤ length b
  pub counted : Counted q fs
  pub small : S < ∞

-- the entry of the open child of a node that has `below` below it
abbrev seen : List Open → Option (ℕ × ℕ)
seen [] = none
seen (g ∷ below) = entry (last_of g below)

seen_many : (below : List Open) (k : Subtrees) → length (push (seen below) (entries k)) ≡ counted below + many k
seen_many [] k = many_entries k ∙ omega arith
seen_many (g ∷ below) k = length-append (entries k) _ ∙ omega (arith, many_entries k)

pub found : (q : ℕ) (below : List Open) (f : Open) (above : List Open) → Counted q (below ++ f ∷ above)
    → Stood (nodes (close_all ∞ (below ++ f ∷ above))) (shown_as (above_of above) ∞ (seen below) f)
unfolding Counted
found q [] f above c = find_lowest q ∞ f above (ready_numbers ∞ q (f ∷ above) c) c.1
found q (g ∷ below) f above c = find_upper q ∞ g below f above (ready_numbers ∞ q (g ∷ below ++ f ∷ above) c) c.1

wrote : (q : ℕ) (x : Interval) (below : List Open) (f : Open) (above : List Open) → Counted q (below ++ f ∷ above)
    → nodes (close_all ∞ (below ++ M.store x f ∷ above))
    ≡ set (nodes (close_all ∞ (below ++ f ∷ above))) f.head.seq (shown_as (above_of above) ∞ (seen below) (M.store x f))
unfolding Counted
wrote q x [] f above c = write_lowest q ∞ x f above (ready_numbers ∞ q (f ∷ above) c) c.1
wrote q x (g ∷ below) f above c =
    write_upper q ∞ x g below f above (ready_numbers ∞ q (g ∷ below ++ f ∷ above) c) c.1 ((store_in x g below f above).1 c.1)

module _ {s : Shape} {o S q : ℕ} where
  -- the new root whole, with the old root as its child
  new_root_lem : (f : Open) (h : History) → Numbers s o S q (f ∷ []) h → Numbers s o S (suc q) (new_root o S q f ∷ []) (raised h)
      → encode (raised h).shape (new_node (head_of (raised h) (h.top + 1) open_end 1) (Some (record { sequence = seq_at h.branch h.top; start = start_at h.branch h.top })))
      ≡ encode s (node_of (shown_as none ∞ none (new_root o S q f)))
  unfolding new_node raised with_branch
  new_root_lem f h n m =
      let same : h.low ≡ h.top = omega (arith, n.top) in
      let line : Line h.branch 0 h.top f = subst (λ (z : ℕ). Line h.branch 0 z f) same n.lines.0 in
      let head = open_head (raised h) 0 (h.top + 1) (new_root o S q f) none (parent_none (raised h) (h.top + 1) (omega arith)) none m.lines.0 refl in
      λ i. encode (n.shape i) (record {
        header = head i;
        children = record { sequence = seq_is (seq_at h.branch h.top) f.head.seq line.1 i; start = line.2 i } ∷ [];
        entries = [];
      })

  -- the old root's parent, in the record that has the new root
  old_parent : (f : Open) (h : History) → h.top < 15 → Numbers s o S q (f ∷ []) h → parent_at (raised h) h.top ≡ record { 0 = parent_of (some q) }
  unfolding raised with_branch
  old_parent f h deep n = parent_some (raised h) h.top q (omega arith) ((raised_at h n.long deep).at_place ∙ n.used)

module _ {s : Shape} {b : List ℕ} {o S q : ℕ} where
  -- ---- 1. close

  pub stands_close : {f p : Open} {above : List Open} (σ : Held) → StandsFor s b o S q (f ∷ p ∷ above) σ → StandsFor s b o S q (adopt S f p ∷ above) (close σ)
  unfolding close put_head Counted
  stands_close {f} {p} {above} σ w =
      let h = σ.history in
      let n = w.numbers in
      let num = ready_numbers ∞ q (f ∷ p ∷ above) w.counted in
      let X = shown_as (some p.head.seq) ∞ none f in
      let Y = node (some p.head.seq) f.head S f.closed in
      let rest = drop (q * node_size s) b in
      let head = shut_head h 0 h.low f (some p.head.seq) (parent_of_lem h 0 h.low f (p ∷ above) n.top n.lines) h.largest_end S n.lines.0 n.largest w.small in
      record {
        numbers = numbers_close s o S q f p above h n;
        bytes = header_written s (nodes (close_up ∞ f (p ∷ above))) X Y rest σ.nodes (stands_at h h.low) (head_of h h.low h.largest_end 2)
            (found q [] f (p ∷ above) w.counted) w.bytes (stands_at_lem s h h.low f.head.seq n.shape n.lines.0.1) head refl refl
            ∙ ap (λ (z : List Node). bytes_of s z ++ rest) (sym (write_close q S ∞ f p above num w.counted.1));
        room = w.room;
        counted = (adopt_order S f p above w.counted.1 ∙ w.counted.0, adopt_firm S f p above w.counted.1);
        small = w.small;
      }

  -- ---- 2. raise

  pub stands_raise : {f : Open} (σ : Held) → σ.history.top < 15 → q < s.n → StandsFor s b o S q (f ∷ []) σ
      → StandsFor s b o S (suc q) (new_root o S q f ∷ []) (raise σ)
  unfolding raise put_head put_new Counted
  stands_raise {f} σ deep more w =
      let h = σ.history in
      let g = raised h in
      let n = w.numbers in
      let m = numbers_raise s o S q f h deep n in
      let num = ready_numbers ∞ q (f ∷ []) w.counted in
      let X = shown_as none ∞ none f in
      let Y = node (some q) f.head S f.closed in
      let line = line_raise s o S q f h n in
      let ns = set (nodes (close_up ∞ f [])) f.head.seq Y in
      let head = shut_head g 0 h.top f (some q) (old_parent f h deep n) h.largest_end S line n.largest w.small in
      record {
        numbers = m;
        bytes = node_appended s q b ns (shown_as none ∞ none (new_root o S q f)) (put_head g h.top h.largest_end 2 σ.nodes) (stands_at g (h.top + 1)) _
            (header_written s (nodes (close_up ∞ f [])) X Y (drop (q * node_size s) b) σ.nodes (stands_at g h.top) (head_of g h.top h.largest_end 2)
            (found q [] f [] w.counted) w.bytes (stands_at_lem s g h.top f.head.seq m.shape line.1) head refl refl)
            (length-set (nodes (close_up ∞ f [])) f.head.seq Y ∙ many_nodes q (nodes (close_up ∞ f [])) num) more w.room
            (stands_at_lem s g (h.top + 1) q m.shape ((raised_at h n.long deep).at_place ∙ n.used)) (new_root_lem f h n m)
            ∙ ap (λ (z : List Node). bytes_of s z ++ drop (suc q * node_size s) b) (sym (write_raise q S ∞ o q f num));
        room = w.room;
        counted = (ap (λ z. z ++ q ∷ []) w.counted.0, (λ x. tt));
        small = w.small;
      }

  -- ---- 3. make

  pub stands_make : (a l : ℕ) (f : Open) (above : List Open) (σ : Held) → σ.history.low ≡ l + 1 → many f.closed < s.c → q < s.n → Root f above
      → StandsFor s b o S q (f ∷ above) σ → StandsFor s b o S (suc q) (child l q a ∷ f ∷ above) (make a l σ)
  unfolding make put_head put_new with_child new_node made with_branch
  stands_make a l f above σ low kids more root w =
      let h = σ.history in
      let g = made h a l in
      let n = w.numbers in
      let m = numbers_make s o S q a l f above h low n in
      let num = ready_numbers ∞ q (f ∷ above) w.counted in
      let line : Line h.branch 0 (l + 1) f = subst (λ (z : ℕ). Line h.branch 0 z f) low n.lines.0 in
      let X = shown_as (above_of above) ∞ none f in
      let Y = shown_as (above_of above) ∞ (some (q, a)) f in
      let Z = shown_as (some f.head.seq) ∞ none (child l q a) in
      let ns = nodes (close_up ∞ f above) in
      let top : g.top + 1 ≡ l + 1 + length (f ∷ above) = omega (arith, m.top) in
      let wide : length (push (some (q, a)) (entries f.closed)) ≡ 1 + many f.closed = length-append (entries f.closed) _ ∙ omega (arith, many_entries f.closed) in
      let upper = open_head g 1 (l + 1) f (above_of above) (parent_of_lem g 1 (l + 1) f above top m.lines.1) (some (q, a)) m.lines.1.0 wide in
      let lower = open_head g 0 l (child l q a) (some f.head.seq) (parent_of_lem g 0 l (child l q a) (f ∷ above) m.top m.lines) none m.lines.0 refl in
      let first : with_child h g a (l + 1) σ.nodes ≡ bytes_of s (set ns f.head.seq Y) ++ drop (q * node_size s) b =
      child_written s ns X Y (drop (q * node_size s) b) σ.nodes (stands_at g (l + 1)) (head_of g (l + 1) open_end 1)
      (found q [] f above w.counted) w.bytes (stands_at_lem s g (l + 1) f.head.seq m.shape m.lines.1.0.1) upper
      (stands_at h (l + 1)) (children_at h.branch (l + 1)) (record { sequence = record { 0 = h.used }; start = a }) (q, a)
      (stands_at_lem s h (l + 1) f.head.seq n.shape line.1) (line.4 ∙ omega (arith, many_entries f.closed))
      (λ i. record { sequence = record { 0 = n.used i }; start = a }) (omega (arith, many_entries f.closed)) refl refl in
      record {
        numbers = m;
        bytes = node_appended s q b (set ns f.head.seq Y) Z (with_child h g a (l + 1) σ.nodes) (stands_at g l) _ first
            (length-set ns f.head.seq Y ∙ many_nodes q ns num) more w.room (stands_at_lem s g l q m.shape m.lines.0.1)
            (λ i. encode (n.shape i) (record { header = lower i; children = []; entries = [] }))
            ∙ ap (λ (z : List Node). bytes_of s z ++ drop (suc q * node_size s) b) (sym (write_grow q ∞ f above (child l q a).head num root));
        room = w.room;
        counted = count_grow q f above l a [] root w.counted;
        small = w.small;
      }

  -- ---- 4. store

  pub stands_store : (x : Interval) (l : ℕ) (below : List Open) (f : Open) (above : List Open) (σ : Held) → l ≡ σ.history.low + length below → length f.head.held < s.k
      → StandsFor s b o S q (below ++ f ∷ above) σ → StandsFor s b o S q (below ++ M.store x f ∷ above) (store (entry_of x) l σ)
  unfolding store put_head stored with_branch
  stands_store x l below f above σ at fewer w =
      let h = σ.history in
      let g = stored h l in
      let n = w.numbers in
      let m = numbers_store x s o S q l below f above h at n in
      let old = subst (λ (z : ℕ). Lines h.branch (counted below) z (f ∷ above)) (sym at) (lines_at h.branch h.low below f above n.lines) in
      let new = subst (λ (z : ℕ). Lines g.branch (counted below) z (M.store x f ∷ above)) (sym at) (lines_at g.branch h.low below (M.store x f) above m.lines) in
      let X = shown_as (above_of above) ∞ (seen below) f in
      let Y = shown_as (above_of above) ∞ (seen below) (M.store x f) in
      let top : g.top + 1 ≡ l + length (f ∷ above) = omega (arith, n.top, length-append below (f ∷ above)) in
      let head = open_head g (counted below) l (M.store x f) (above_of above) (parent_of_lem g (counted below) l (M.store x f) above top new) (seen below) new.0 (seen_many below f.closed) in
      record {
        numbers = m;
        bytes = entry_written s (nodes (close_all ∞ (below ++ f ∷ above))) X Y (drop (q * node_size s) b) σ.nodes (stands_at g l) (head_of g l open_end 1)
            (found q below f above w.counted) w.bytes (stands_at_lem s g l f.head.seq m.shape new.0.1) head
            (stands_at h l) (intervals_at h.branch l) h.shape x (stands_at_lem s h l f.head.seq n.shape old.0.1) n.shape old.0.3 fewer refl refl
            ∙ ap (λ (z : List Node). bytes_of s z ++ drop (q * node_size s) b) (sym (wrote q x below f above w.counted));
        room = w.room;
        counted = store_counted x q below f above w.counted;
        small = w.small;
      }
