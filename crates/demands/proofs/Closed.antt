-- The nodes after a sequence of calls are the build rule's, and a call leaves closed nodes as they were. Assumes nothing.
use Prim.Native.Nat.{ℕ, ◌*◌, ◌≤◌, ◌<◌}
use mathlib.Core.Bool.{Bool, true, false, cond}
use mathlib.Core.Path.{◌≡◌, refl, sym, ap, subst, ◌∙◌}
use mathlib.Core.List.{List, [], ◌∷◌, ◌++◌}
use native.Mathlib.Omega.{arith}
use lib.Dec.{leb}
use lib.ListN.{length, take, drop, get_or, get_or-eq_default}
use borrow.Author.Tests.{leb-true, leb-false}
use Rattle.layout.specs.declared.Shape.{Shape}
use Rattle.layout.specs.declared.Header.{Header}
use Rattle.layout.specs.Layout.{node_size, encode, read_header}
use Rattle.record.specs.declared.History.{History}
use Rattle.record.specs.Refusals as R
use Rattle.record.proofs.Facts.{sound_numbers}
use Rattle.walk.specs.View.{view_of}
use Rattle.model.specs.Transient as M
use Rattle.model.specs.Nodes.{∞, Node, blank, state_of}
use Rattle.model.specs.Theorems.{Run, tree, made, called, Calls64}
use Rattle.model.proofs.Proved.{nodes_sit, closed_kept}
use Rattle.represents.specs.Represents.{bytes_of, node_of}
use Rattle.represents.specs.Histories.{Opening, run_of, Stands}
use Rattle.represents.specs.Calls.{outcome_of}
use Rattle.represents.proofs.Bytes.{node_bytes}
use Rattle.represents.proofs.Holding as H
use Rattle.represents.proofs.Fitting.{made_used, readable}
use Rattle.represents.proofs.Shown.{same_bytes}
use Rattle.represents.proofs.Proved.{call_stands}
use Rattle.demands.specs.Runs.{Call, opening, set, remove, increment, add, finish, single, full, State, Answer, says, if_begun, follows, told, answered as asks, step}
use Rattle.demands.specs.Sequences.{begins, Fits, Sequence, now}
use Rattle.demands.specs.Demands.{Rebuilt, ClosedKept, node_at}
use Rattle.demands.proofs.Kept.{refused_keeps}
use Rattle.demands.proofs.Standing.{opened, known}
use Rattle.demands.proofs.Mirrored.{mirrors, allows, ran, mirrored, allowed, builds}

-- ---- the used nodes

shape_same : (s : Sequence) → (now s).history.shape ≡ s.shape
shape_same s = (known s).at.shows.shape

pub rebuilt : (s : Sequence) → Rebuilt s
rebuilt s = let m = mirrored s in record {
  used = m.used ∙ (sym (made_used (ran s) (allowed s)) ∙ ap (λ (ns : List Node). length ns) (builds s));
  rest = m.rest;
  bytes = m.bytes ∙ (ap (λ (z : Shape). bytes_of z (made (ran s)) ++ m.rest) (shape_same s) ∙ ap (λ (ns : List Node). bytes_of s.shape ns ++ m.rest) (builds s));
}

-- ---- closed nodes

-- the buffer begins with the bytes of the nodes, and so the stretch of one of them
stretch : (p : Opening) (cs : List M.Call) (h : History) (b table : List ℕ) → Stands p cs h b table → (i : ℕ) → i < length (made (run_of p cs))
    → take (node_size p.shape) (drop (i * node_size p.shape) b) ≡ encode p.shape (node_of (get_or (made (run_of p cs)) i blank))
stretch p cs h b table at i lt =
    let S = node_size p.shape in
    let rest = drop ((tree (run_of p cs)).used * node_size p.shape) b in
    ap (λ (z : List ℕ). take S (drop (i * S) z))
    (same_bytes p cs h b table at ∙ ap (λ (z : Shape). bytes_of z (made (run_of p cs)) ++ rest) at.shows.shape)
    ∙ node_bytes p.shape (made (run_of p cs)) rest i lt

-- what the state says of the end
not_open : (e : ℕ) → state_of e ≡ 2 → e ≡ ∞ → ⊥
not_open e two is = let z : ◌≡◌ {A = ℕ} 1 2 = sym (ap state_of is) ∙ two in omega arith

module _ (p : Opening) (cs : List M.Call) (h : History) (b table : List ℕ) (at : Stands p cs h b table) (i : ℕ) (lt : i < length (made (run_of p cs)))
    (closed : (read_header b (i * node_size p.shape)).state ≡ 2) where
  abbrev r : Run
  r = run_of p cs

  abbrev node : Node
  node = get_or (made r) i blank

  -- its end is not that of an open node
  ended : node.end ≡ ∞ → ⊥
  unfolding view_of
  ended =
      let f = readable (allows p cs h b table at) at.values (mirrors p cs h b table at) in
      let k = (f.sits i lt).1 in
      let e = same_bytes p cs h b table at in
      let n = (H.stands h.shape (made r) _ b e i lt (f.fits i lt) k.intervals k.children).header in
      not_open node.end (
      ap (λ (x : Header). x.state) (sym n)
      ∙ (ap (λ (z : Shape). (read_header b (i * node_size z)).state) at.shows.shape ∙ closed)
      )

  module _ (m : M.Call) (fit : Calls64 (m ∷ [])) where
    after : Stands p (m ∷ cs) (outcome_of m h b table).answer.history (outcome_of m h b table).nodes (outcome_of m h b table).table
    after = call_stands p cs h b table at m fit

    same_node : get_or (made (called r m)) i blank ≡ node
    same_node = closed_kept r (allows p cs h b table at) m i lt ended

    -- it is still there
    still : i < length (made (called r m))
    still = go (leb (length (made (called r m))) i) refl
      where
        go : (x : Bool) → leb (length (made (called r m))) i ≡ x → i < length (made (called r m))
        go false e = leb-false (length (made (called r m))) i e
        go true e =
            let o = outcome_of m h b table in
            let past : length (made (called r m)) ≤ i = leb-true (length (made (called r m))) i e in
            let gone = get_or-eq_default (made (called r m)) blank past in
            let zero : i ≡ 0 = sym (nodes_sit r (allows p cs h b table at) i lt).0 ∙ ap (λ (n : Node). n.seq) (sym same_node ∙ gone) in
            let w = mirrors p (m ∷ cs) o.answer.history o.nodes o.table after in
            let some = (sound_numbers o.answer.history w.whole).some in
            let used = made_used (called r m) (allows p (m ∷ cs) o.answer.history o.nodes o.table after) in
            absurd (omega (arith, w.used))

    pub node_kept : take (node_size p.shape) (drop (i * node_size p.shape) (outcome_of m h b table).nodes) ≡ take (node_size p.shape) (drop (i * node_size p.shape) b)
    node_kept =
        stretch p (m ∷ cs) _ _ _ after i still
        ∙ (ap (λ (n : Node). encode p.shape (node_of n)) same_node ∙ sym (stretch p cs h b table at i lt))

-- ---- of a sequence

module _ (s : Sequence) (i : ℕ) (lt : i < (now s).history.used) (closed : (read_header (now s).nodes (i * node_size s.shape)).state ≡ 2) where
  abbrev σ : State
  σ = now s

  abbrev Same : State → Type 0
  Same x = node_at s i x.nodes ≡ node_at s i (now s).nodes

  used_here : i < length (made (ran s))
  used_here = omega (arith, (mirrored s).used, made_used (ran s) (allowed s))

  while_begun : (x : State × Answer) → Same x.0 → Same (if_begun σ x).0
  while_begun x a = subst (λ (b : Bool). Same (cond b x (σ, says R.NotOpen)).0) (sym (known s).begun) a

  by_call : (m : M.Call) → Calls64 (m ∷ []) → Same (follows σ (outcome_of m σ.history σ.nodes σ.table)).0
  by_call m fit = node_kept (opened s) (known s).calls σ.history σ.nodes σ.table (known s).at i used_here closed m fit

  kept_by : (c : Call) → begins c σ ≡ false → Fits c → Same (step c σ).0
  unfolding step
  kept_by (opening start attributes shape) going fit =
      ap (λ (x : State). node_at s i x.nodes) (refused_keeps (opening start attributes shape) σ going).0
  kept_by (set t q v) going fit = while_begun _ (by_call (M.change t q (M.set v)) (fit, tt))
  kept_by (remove t q) going fit = while_begun _ (by_call (M.change t q M.remove) (tt, tt))
  kept_by (increment t q) going fit = while_begun _ (by_call (M.change t q M.increment) (tt, tt))
  kept_by add going fit = while_begun _ (by_call M.add tt)
  kept_by (finish t) going fit = while_begun _ (by_call (M.finish t) tt)
  kept_by (single t q) going fit = while_begun (told σ t q) refl
  kept_by (full t) going fit = while_begun (asks σ t) refl

pub closed_nodes : (s : Sequence) → ClosedKept s
closed_nodes s c going fit i lt closed = kept_by s i lt closed c going fit
