-- R1 to R6: every node of a history that only calls have touched passes the tests that a question makes of the nodes it enters.
use Prim.Native.Nat.{ℕ, zero, suc, ◌≤◌, ◌<◌}
use mathlib.Core.Path.{◌≡◌, refl, sym, ap, ◌∙◌, subst}
use mathlib.Core.Logic.{◌⊎◌, inl, inr}
use mathlib.Core.List.Memᴰ
use mathlib.Core.List.{List, [], ◌∷◌, ◌++◌, Memᴰ, Permᴰ}
use mathlib.Core.Option.{Option, none, some}
use native.Mathlib.Omega.{arith}
use lib.ListN.{length, get_or, length-append}
use Rattle.model.specs.Transient.{Interval, Call, change, add, finish, becomes, Effect, stays, replaced, ended, effect, to_store, Ongoing, history, step, stores, last_intervals}
use Rattle.model.specs.Build.{Subtrees, childless, also, many, next, Shape}
use Rattle.model.specs.Nodes.{Node, entries, node, preorder, nodes, blank, open_end, tree_of, standing, intervals}
use Rattle.model.specs.Invariant.{Shaped, Good, Sizes}
use Rattle.model.specs.Rules.{Child, Sits, Known}
use Rattle.model.proofs.Answers.{standing_good, stands_once}
use Rattle.model.proofs.ByPlace.{At, place_at, in_place, at_mem, preorder_at}
use Rattle.model.proofs.Kept.{to_nodes, from_nodes, numbered}
use Rattle.model.proofs.Legal.{Legal}
use Rattle.model.proofs.Sized.{close_all_sizes, build_rooms}
use Rattle.model.proofs.Storable.{storable}

pub many_entries : (k : Subtrees) → length (entries k) ≡ many k
many_entries childless = refl
many_entries (also ks h e k) = length-append (entries ks) ((h.seq, h.start) ∷ []) ∙ omega (arith, many_entries ks)

module _ (ns : List Node) (m : Node) where
  children : (l a : ℕ) (k : Subtrees) → m.level ≡ l → next a k ≤ suc m.end → Good l a k → At ns (some m.seq) k → (c b : ℕ)
      → Memᴰ (c, b) (entries k) → Child ns m c b
  children l a childless v w g t c b d = absurd (Memᴰ.not-nil d)
  children zero a (also ks h e k) v w g t c b d = absurd g
  children (suc l) a (also ks h e k) v w g t c b d = go (Memᴰ.append_cases (entries ks) d)
      (children (suc l) a ks v (omega (arith, g.1.start, g.1.ordered)) g.0 t.0 c b)
    where
      this : Child ns m h.seq h.start
      this = record {
        used = t.1.0;
        seq = ap (λ n. n.seq) t.1.1;
        level = ap (λ n. suc n.level) t.1.1 ∙ (ap suc g.1.level ∙ sym v);
        start = ap (λ n. n.start) t.1.1;
        end = subst (λ (z : ℕ). z ≤ m.end) (sym (ap (λ n. n.end) t.1.1)) (omega arith);
        parent = ap (λ n. n.parent) t.1.1;
      }

      go : Memᴰ (c, b) (entries ks) ⊎ Memᴰ {A = ℕ × ℕ} (c, b) ((h.seq, h.start) ∷ []) → (Memᴰ (c, b) (entries ks) → Child ns m c b)
          → Child ns m c b
      go (inl x) ih = ih x
      go (inr x) ih = let e = Memᴰ.eq_of_singleton x in subst (λ (z : ℕ × ℕ). Child ns m z.0 z.1) (sym e) this

module _ (sh : Shape) (ns : List Node) where
  pub sits : (l a : ℕ) (p : Option ℕ) (ks : Subtrees) → Good l a ks → Sizes sh ks → At ns p ks → (m : Node) → Memᴰ m (preorder p ks) → Sits sh ns m
  sits l a p childless g z t m d = absurd (Memᴰ.not-nil d)
  sits zero a p (also ks h e k) g z t m d = absurd g
  sits (suc l) a p (also ks h e k) g z t m d =
      go (Memᴰ.append_cases (preorder p ks) d) (sits (suc l) a p ks g.0 z.0 t.0 m) (sits l h.start (some h.seq) k g.2 z.3 t.2 m)
    where
      leaf : (l : ℕ) (k : Subtrees) → Good l h.start k → l ≡ 0 → entries k ≡ []
      leaf l childless g e = refl
      leaf zero (also ks h' e' k) g e = absurd g
      leaf (suc l) (also ks h' e' k) g e = absurd (omega arith)

      this : Sits sh ns (node p h e k)
      this = record {
        ordered = g.1.ordered;
        inside = g.1.inside;
        intervals = z.1;
        children = omega (arith, many_entries k, z.2);
        leaf = λ q. leaf l k g.2 (sym g.1.level ∙ q);
        each = children ns (node p h e k) l h.start k g.1.level g.1.within g.2 t.2;
      }

      last : (m ≡ node p h e k) ⊎ Memᴰ m (preorder (some h.seq) k) → (Memᴰ m (preorder (some h.seq) k) → Sits sh ns m) → Sits sh ns m
      last (inl x) j = subst (λ z. Sits sh ns z) (sym x) this
      last (inr x) j = j x

      go : Memᴰ m (preorder p ks) ⊎ Memᴰ m (node p h e k ∷ preorder (some h.seq) k) → (Memᴰ m (preorder p ks) → Sits sh ns m)
          → (Memᴰ m (preorder (some h.seq) k) → Sits sh ns m) → Sits sh ns m
      go (inl x) i j = i x
      go (inr x) i j = last (Memᴰ.cases_cons x) j

-- R6, the quarks
known_mono : (n : ℕ) (xs : List Interval) → Known n xs → Known (suc n) xs
known_mono n [] k = tt
known_mono n (x ∷ xs) k = (omega arith, known_mono n xs k.1)

known_last_intervals : (f : ℕ → Ongoing) (T m n : ℕ) (r : List Interval) → m ≤ n → Known n r → Known n (last_intervals f T m ++ r)
known_last_intervals f T zero n r h k = k
known_last_intervals f T (suc m) n r h k = (h, known_last_intervals f T m n r (omega arith) k)

known_to_store : (n q t : ℕ) (e : Effect) (o : Ongoing) (r : List Interval) → q < n → Known n r → Known n (to_store e q o t ++ r)
known_to_store n q t stays o r h k = k
known_to_store n q t replaced o r h k = k
known_to_store n q t ended o r h k = (h, k)

pub known : (s n : ℕ) (cs : List Call) → Legal s n cs → Known (history s n cs).attributes (history s n cs).stored
unfolding Legal history step stores
known s n [] k = tt
known s n (change t q c ∷ cs) k =
    let l = history s n cs in
    known_to_store l.attributes q t (effect (becomes c (l.table q).state) (l.table q) t) (l.table q) l.stored k.1 (known s n cs k.4)
known s n (add ∷ cs) k = known_mono (history s n cs).attributes (history s n cs).stored (known s n cs k.1)
known s n (finish t ∷ cs) k =
    let l = history s n cs in known_last_intervals l.table t l.attributes l.attributes l.stored (omega arith) (known s n cs k.3)

-- the order does not matter
pub perm_known : {xs ys : List Interval} (n : ℕ) → Permᴰ xs ys → Known n ys → Known n xs
perm_known n Permᴰ.nil k = k
perm_known n (Permᴰ.cons e d) k = (subst (λ z. z.quark < n) (sym e) k.0, perm_known n d k.1)
perm_known n (Permᴰ.swap e₁ e₂) k = (subst (λ z. z.quark < n) (sym e₁) k.1.0, (subst (λ z. z.quark < n) (sym e₂) k.0, k.1.1))
perm_known n (Permᴰ.trans c d) k = perm_known n c (perm_known n d k)

-- at a history
module _ (sh : Shape) (shaped : Shaped sh) where
  pub at_places : (s n : ℕ) (cs : List Call) → Legal s n cs → At (nodes (standing sh (history s n cs))) none (standing sh (history s n cs))
  at_places s n cs k =
      let l = history s n cs in
      preorder_at (nodes (standing sh l)) none (standing sh l)
      (λ m d. in_place (tree_of sh l).used (nodes (standing sh l)) m (numbered sh shaped s n cs k) (to_nodes sh l m d))

  sized : (s n : ℕ) (cs : List Call) → Legal s n cs → Sizes sh (standing sh (history s n cs))
  unfolding standing
  sized s n cs k =
      let l = history s n cs in
      close_all_sizes sh shaped (open_end l) (tree_of sh l).branch (build_rooms sh shaped l.start l.stored (storable s n cs k).sane)

  -- R1 to R6 hold of every node, so no question is answered 3
  pub passes : (s n : ℕ) (cs : List Call) → Legal s n cs → (i : ℕ) → i < length (nodes (standing sh (history s n cs)))
      → let ns = nodes (standing sh (history s n cs)) in ((get_or ns i blank).seq ≡ i) × Sits sh ns (get_or ns i blank)
  passes s n cs k i h = let l = history s n cs in let g = standing_good sh s n cs shaped k in let m = get_or (nodes (standing sh l)) i blank in (
    place_at (tree_of sh l).used (nodes (standing sh l)) i (numbered sh shaped s n cs k) h,
    sits sh (nodes (standing sh l)) g.0 l.start none (standing sh l) g.1 (sized s n cs k) (at_places s n cs k) m
        (from_nodes sh l m (at_mem (nodes (standing sh l)) i h)),
  )

  pub quarks : (s n : ℕ) (cs : List Call) → Legal s n cs → Known (history s n cs).attributes (intervals (preorder none (standing sh (history s n cs))))
  quarks s n cs k = perm_known (history s n cs).attributes (stands_once sh s n cs shaped k) (known s n cs k)
