-- The plan carried out on record and bytes is the model's insert, and its numbers are those that the model's limits look at. Assumes nothing.
use Prim.Native.Nat.{ℕ, zero, suc, ◌+◌, ◌-◌, ◌≤◌, ◌<◌, max}
use mathlib.Core.Bool.{Bool, true, false, cond}
use mathlib.Core.Path.{◌≡◌, refl, sym, ap, ◌∙◌, subst}
use mathlib.Core.List.{List, [], ◌∷◌, ◌++◌, append_assoc}
use native.Mathlib.Omega.{arith}
use lib.Dec.{ltb, leb}
use lib.ListN.{length, length-append}
use borrow.Author.Tests.{lt-ltb, le-ltb, ltb-false}
use Rattle.layout.specs.declared.Shape.{Shape}
use Rattle.record.specs.declared.History.{History}
use Rattle.record.specs.Refusals.{Nothing}
use Rattle.record.specs.Levels.{last_end_at}
use Rattle.record.specs.Moves.{with_largest, stretched}
use Rattle.settle.specs.declared.Plan.{Plan}
use Rattle.settle.specs.declared.Verdict.TheVariants.{Here, Chain, Close}
use Rattle.settle.specs.Settle.{ruled, plan, ask_up, lowest, settle, needed, plan_refusal}
use Rattle.settle.proofs.Ways.{here, chained, new_root_lem, upward}
use Rattle.build.specs.Moves.{Held, store}
use Rattle.build.specs.Write.{climb, descend, stretch, placed, written}
use Rattle.build.proofs.Plans.{then_room}
use Rattle.model.specs.Build as M
use Rattle.model.specs.Transient.{Interval}
use Rattle.model.specs.Build.{Open, next, many, gathered, adopt, new_root, Verdict, grow, keep, shut, verdict, Grown, grown, ask, seek, begin, depth}
use Rattle.model.specs.Nodes.{∞}
use Rattle.model.specs.Invariant.{Shaped, HasChild, Rooms, Some}
use Rattle.model.proofs.Steps.{gathered_more}
use Rattle.model.proofs.Grows.{chain_depth, store_depth}
use Rattle.model.proofs.Places.{Counted, full_root}
use Rattle.represents.specs.Represents.{shape_of, entry_of, Lines, Ended}
use Rattle.represents.proofs.Lines.{counted, lines_at}
use Rattle.represents.proofs.Moves.{StandsFor, stands_store}
use Rattle.represents.proofs.Steps.{rise_close, rise_raise, climb_last, stands_stretch, stands_chain}
use Rattle.represents.proofs.Verdicts.{said, has, has_low, Askable, ended_next, ruled_said, grows_told, keeps_told, ask_grow, ask_keep, ask_root, ask_shut, depth_below, depth_top}

counted_snoc : (below : List Open) (f : Open) → counted (below ++ f ∷ []) ≡ 1
counted_snoc [] f = refl
counted_snoc (g ∷ below) f = refl

able_snoc : (below : List Open) (f p : Open) (l last : ℕ) → Askable (below ++ f ∷ []) p l last
able_snoc [] f p l last = tt
able_snoc (g ∷ below) f p l last = tt

needed_root : (top n l : ℕ) (t : Bool) → top < l → needed top (plan n l t) ≡ 1 + cond t l 0
unfolding needed
needed_root top n l t lt = ap (λ (z : Bool). cond z 1 0 + cond t l 0) (lt-ltb top l lt)

needed_under : (top n l : ℕ) (t : Bool) → l ≤ top → needed top (plan n l t) ≡ cond t l 0
unfolding needed
needed_under top n l t le = ap (λ (z : Bool). cond z 1 0 + cond t l 0) (le-ltb top l le) ∙ omega arith

-- the question put to level m, where nothing is closed yet
abbrev asking : History → ℕ → ℕ → Plan
asking h s m = ask_up (h.top - m) h s m (ltb h.low m) (last_end_at h.branch m) 0

module _ (s : Shape) (x : Interval) (b : List ℕ) (o S q : ℕ) (shaped : Shaped (shape_of s)) (early : x.end < ∞) (σ : Held) (shape : σ.history.shape ≡ s) (large : σ.history.largest_end ≡ S) (used : σ.history.used ≡ q) (within : q ≤ s.n) where
  unfoldable pub Done : Plan → Grown → Type 0
  Done p g = StandsFor s b o (max S x.end) g.used g.branch (written (entry_of x) p σ)

  -- the numbers that the two refusals look at
  unfoldable pub Judged : Plan → Grown → Type 0
  Judged p g = (depth g.branch ≡ suc (max σ.history.top p.level)) × (g.used ≡ σ.history.used + needed σ.history.top p)

  unfoldable pub Outcome : Plan → Grown → Type 0
  Outcome p g = Judged p g × (plan_refusal σ.history p ≡ Nothing → Done p g)

  pub room_for : (p : Plan) → plan_refusal σ.history p ≡ Nothing → (p.level ≤ 15) × (q + needed σ.history.top p ≤ s.n)
  room_for p e =
      let r = then_room σ.history p e in (
        ltb-false 15 p.level r.0,
        omega (arith, ltb-false (σ.history.shape.n - σ.history.used) (needed σ.history.top p) r.1, ap (λ (z : Shape). z.n) shape),
      )

  -- ---- what is done at the plan's level

  -- the level stores
  keeps_here : (u n l : ℕ) (below : List Open) (f : Open) (above : List Open) → StandsFor s b o S u (below ++ f ∷ above) (climb n σ) → f.head.level ≡ l
      → length f.head.held < s.k → Done (plan n l false) (record { used = u; branch = below ++ M.store x f ∷ above })
  unfolding written placed Done stretch stretched with_largest
  keeps_here u n l below f above w e fewer =
      let h = (climb n σ).history in
      let at = lines_at h.branch h.low below f above w.numbers.lines in
      stands_store x l below f above (stretch x.end (climb n σ)) (sym e ∙ at.0.0) fewer (stands_stretch x.end (climb n σ) early w)

  -- a chain is made below the lowest level
  grows_here : (u n l : ℕ) (f : Open) (above : List Open) → StandsFor s b o S u (f ∷ above) (climb n σ) → f.head.level ≡ l → 0 < l → HasChild f.closed
      → many f.closed < s.c → u + l ≤ s.n → Done (plan n l true) (grown u x f above)
  unfolding written placed Done stretch stretched with_largest Counted
  grows_here u n zero f above w e pos full kids room = absurd (omega arith)
  grows_here u n (suc l) f above w e pos full kids room =
      let h = (climb n σ).history in
      let a = last_end_at h.branch (suc l) + 1 in
      let τ = store (entry_of x) 0 (descend a (suc l) (stretch x.end (climb n σ))) in
      let low : h.low ≡ suc l = sym w.numbers.lines.0.0 ∙ e in
      let start : a ≡ next f.head.start f.closed =
      ended_next (last_end_at h.branch (suc l)) f.head.start f.closed full (subst (λ (z : ℕ). Ended (last_end_at h.branch z) f.closed) low w.numbers.last) in
      let root = full_root f above (omega (arith, e)) w.counted.1 in
      subst (λ (z : ℕ). StandsFor s b o (max S x.end) (u + z) (M.chain z u (next f.head.start f.closed) x (f ∷ above)) τ) (sym e)
      (subst (λ (z : ℕ). StandsFor s b o (max S x.end) (u + suc l) (M.chain (suc l) u z x (f ∷ above)) τ) start
      (stands_chain x a l u f above (stretch x.end (climb n σ)) shaped low kids room root (stands_stretch x.end (climb n σ) early w)))

  -- the new root's turn
  roots : (n l : ℕ) (f : Open) (t : Bool) → StandsFor s b o S (suc q) (new_root o S q f ∷ []) (climb n σ) → suc f.head.level ≡ l → (t ≡ true → suc q + l ≤ s.n)
      → Done (plan n l t) (cond t (grown (suc q) x (new_root o S q f) []) (record { used = suc q; branch = M.store x (new_root o S q f) ∷ [] }))
  roots n l f true w e room = grows_here (suc q) n l (new_root o S q f) [] w e (omega arith) tt (omega (arith, shaped.children)) (room refl)
  roots n l f false w e room = keeps_here (suc q) n l [] (new_root o S q f) [] w e (omega (arith, shaped.intervals))

  root_judged : (n l : ℕ) (f : Open) (t : Bool) → σ.history.top + 1 ≡ l → suc f.head.level ≡ l
      → Judged (plan n l t) (cond t (grown (suc q) x (new_root o S q f) []) (record { used = suc q; branch = M.store x (new_root o S q f) ∷ [] }))
  unfolding Judged
  root_judged n l f true e d =
      (chain_depth (suc f.head.level) (suc q) (suc S) x (new_root o S q f) [] ∙ omega arith, omega (arith, needed_root σ.history.top n l true (omega arith)))
  root_judged n l f false e d = (omega arith, omega (arith, needed_root σ.history.top n l false (omega arith)))

  -- ---- the question, verdict by verdict

  both : {p p' : Plan} {g g' : Grown} → p' ≡ p → g ≡ g' → Outcome p' g' → Outcome p g
  both {p} {p'} {g} {g'} e d y = subst (λ (z : Plan). Outcome z g) e (subst (λ (z : Grown). Outcome p' z) (sym d) y)

  choose : {G : Type 0} (v w : Verdict) → w ≡ v → (w ≡ grow → G) → (w ≡ keep → G) → (w ≡ shut → G) → G
  choose grow w e x y z = x e
  choose keep w e x y z = y e
  choose shut w e x y z = z e

  module _ (below : List Open) (f : Open) (above : List Open) (l last n : ℕ) (top : σ.history.top + 1 ≡ l + length (f ∷ above)) (lines : Lines σ.history.branch (counted below) l (f ∷ above)) (able : Askable below f l last) where
    verdict_is : (v : Verdict) → verdict (shape_of s) below f x.start ≡ v → said v ≡ ruled σ.history.branch σ.history.shape x.start l (has below) last
    verdict_is v e = sym (ruled_said σ.history.branch σ.history.shape s x.start l last below f shape lines.0 able ∙ ap said e)

    deep : depth (f ∷ above) ≡ suc σ.history.top
    deep = depth_top σ.history.branch (counted below) l σ.history.top f above top lines

    keep_case : StandsFor s b o S q (below ++ f ∷ above) (climb n σ) → verdict (shape_of s) below f x.start ≡ keep
        → Outcome (ask_up (σ.history.top - l) σ.history x.start l (has below) last n) (ask (shape_of s) x o S q below f above)
    unfolding Outcome Judged
    keep_case w e =
        both (here σ.history x.start l (has below) last n Here (verdict_is keep e) (σ.history.top - l) refl) (ask_keep (shape_of s) x o S q below f above e) (
          (store_depth x below f above ∙ (depth_below below f above ∙ (deep ∙ omega arith)), omega (arith, needed_under σ.history.top n l false (omega arith))),
          λ a. keeps_here q n l below f above w lines.0.0 (keeps_told (shape_of s) below f x.start e),
        )

    -- only a node without open child grows
    childless_grows : below ≡ [] → 0 < l → (0 < l → HasChild f.closed) → StandsFor s b o S q (f ∷ above) (climb n σ) → verdict (shape_of s) below f x.start ≡ grow
        → Outcome (ask_up (σ.history.top - l) σ.history x.start l (has below) last n) (ask (shape_of s) x o S q below f above)
    unfolding Outcome Judged
    childless_grows none pos full w e =
        both (chained σ.history x.start l (has below) last n Chain (verdict_is grow e) (σ.history.top - l) refl) (ask_grow (shape_of s) x o S q below f above e) (
          (chain_depth f.head.level q (next f.head.start f.closed) x f above ∙ (deep ∙ omega arith), omega (arith, lines.0.0, needed_under σ.history.top n l true (omega arith))),
          λ a.
              let r = room_for (plan n l true) a in
              grows_here q n l f above w lines.0.0 pos (full pos) (grows_told (shape_of s) below f x.start e).2 (omega (arith, r.1, needed_under σ.history.top n l true (omega arith))),
        )

    root_case : above ≡ [] → σ.history.low ≤ l → StandsFor s b o S q (gathered S below f ∷ []) (climb (l - σ.history.low) σ) → verdict (shape_of s) below f x.start ≡ shut
        → Outcome (ask_up (σ.history.top - l) σ.history x.start l (has below) last n) (ask (shape_of s) x o S q below f [])
    unfolding Outcome
    root_case alone le w e =
        let n' = l + 1 - σ.history.low in
        let up : σ.history.top + 1 ≡ l + 1 = top ∙ ap (λ (z : List Open). l + length (f ∷ z)) alone in
        let p = plan n' (l + 1) (ltb S x.start) in
        let is : p ≡ ask_up (σ.history.top - l) σ.history x.start l (has below) last n =
        (λ i. plan n' (l + 1) (ltb (sym large i) x.start)) ∙ new_root_lem σ.history x.start l (has below) last n Close (verdict_is shut e) refl (omega arith) in
        let more = needed_root σ.history.top n' (l + 1) (ltb S x.start) (omega arith) in
        let level : suc f.head.level ≡ l + 1 = omega (arith, lines.0.0) in
        both is (ask_root (shape_of s) x o S q below f e) (
          root_judged n' (l + 1) (gathered S below f) (ltb S x.start) up level,
          λ a.
              let r = room_for p a in
              let fewer : (climb (l - σ.history.low) σ).history.top < 15 = omega (arith, r.0, w.numbers.top, w.numbers.lines.0.0, lines.0.0) in
              roots n' (l + 1) (gathered S below f) (ltb S x.start)
              (subst (λ (z : Held). StandsFor s b o S (suc q) (new_root o S q (gathered S below f) ∷ []) z) (sym (climb_last l σ.history.low σ le))
              (rise_raise (climb (l - σ.history.low) σ) fewer (omega (arith, r.1, more)) w)) level
              (λ t. let y : cond (ltb S x.start) (l + 1) 0 ≡ l + 1 = ap (λ (z : Bool). cond z (l + 1) 0) t in omega (arith, r.1, more, y)),
        )

  grow_case : (below : List Open) (f : Open) (above : List Open) (l last n : ℕ) → σ.history.top + 1 ≡ l + length (f ∷ above)
      → Lines σ.history.branch (counted below) l (f ∷ above) → Askable below f l last → StandsFor s b o S q (below ++ f ∷ above) (climb n σ)
      → verdict (shape_of s) below f x.start ≡ grow
      → Outcome (ask_up (σ.history.top - l) σ.history x.start l (has below) last n) (ask (shape_of s) x o S q below f above)
  grow_case [] f above l last n top lines able w e =
      childless_grows [] f above l last n top lines able refl (omega (arith, lines.0.0, (grows_told (shape_of s) [] f x.start e).1)) able.0 w e
  grow_case (g ∷ below) f above l last n top lines able w e =
      let z : ◌≡◌ {A = ℕ} (length (g ∷ below)) 0 = ap length (grows_told (shape_of s) (g ∷ below) f x.start e).0 in
      absurd (omega arith)

  ask_stands : (below : List Open) (f : Open) (above : List Open) (l last n : ℕ) → σ.history.low ≤ l → σ.history.top + 1 ≡ l + length (f ∷ above)
      → Lines σ.history.branch (counted below) l (f ∷ above) → Askable below f l last → StandsFor s b o S q (below ++ f ∷ above) (climb n σ)
      → StandsFor s b o S q (gathered S below f ∷ above) (climb (l - σ.history.low) σ)
      → Outcome (ask_up (σ.history.top - l) σ.history x.start l (has below) last n) (ask (shape_of s) x o S q below f above)
  ask_stands below f [] l last n low top lines able w w' =
      choose (verdict (shape_of s) below f x.start) (verdict (shape_of s) below f x.start) refl
      (grow_case below f [] l last n top lines able w)
      (keep_case below f [] l last n top lines able w)
      (root_case below f [] l last n top lines able refl low w')
  ask_stands below f (p ∷ above) l last n low top lines able w w' =
      let c = adopt S (gathered S below f) p in
      let d = lines.1.0 in
      let n' = l + 1 - σ.history.low in
      let t : StandsFor s b o S q (c ∷ above) (climb n' σ) =
      subst (λ (z : Held). StandsFor s b o S q (c ∷ above) z) (sym (climb_last l σ.history.low σ low)) (rise_close (climb (l - σ.history.low) σ) w') in
      choose (verdict (shape_of s) below f x.start) (verdict (shape_of s) below f x.start) refl
      (grow_case below f (p ∷ above) l last n top lines able w)
      (keep_case below f (p ∷ above) l last n top lines able w)
      (λ e.
      both
      (upward σ.history x.start l (has below) last n Close (verdict_is below f (p ∷ above) l last n top lines able shut e)
      (ask_up (σ.history.top - (l + 1)) σ.history x.start (l + 1) false σ.history.largest_end n') refl (omega arith) (λ y. omega arith) refl)
      (ask_shut (shape_of s) x o S q below f p above e)
      (ask_stands [] c above (l + 1) σ.history.largest_end n' (omega arith) (omega arith) ((d.0, d.1, d.2, d.3, d.4 ∙ omega arith), lines.1.1) ((λ y. tt), large) t t))

  -- ---- the lowest level with start at or below the interval's

  either : (t : Bool) (a c : ℕ) (g k : Grown) → Outcome (asking σ.history x.start a) g → Outcome (asking σ.history x.start c) k
      → Outcome (asking σ.history x.start (cond t a c)) (cond t g k)
  either true a c g k y z = y
  either false a c g k y z = z

  seek_stands : (below : List Open) (f : Open) (above : List Open) (l : ℕ) → l ≡ σ.history.low + length below → σ.history.top + 1 ≡ l + length (f ∷ above)
      → Lines σ.history.branch (counted below) l (f ∷ above) → Askable below f l (last_end_at σ.history.branch l) → StandsFor s b o S q (below ++ f ∷ above) σ
      → StandsFor s b o S q (gathered S below f ∷ above) (climb (l - σ.history.low) σ)
      → Outcome (asking σ.history x.start (lowest (length above) σ.history.branch x.start l)) (seek (shape_of s) x o S q below f above)
  unfolding lowest climb
  seek_stands below f [] l low top lines able w w' =
      subst (λ (z : Bool). Outcome (ask_up (σ.history.top - l) σ.history x.start l z (last_end_at σ.history.branch l) 0) (ask (shape_of s) x o S q below f [])) (sym (has_low below σ.history.low l low))
      (ask_stands below f [] l (last_end_at σ.history.branch l) 0 (omega arith) top lines able w w')
  seek_stands below f (p ∷ above) l low top lines able w w' =
      let c = adopt S (gathered S below f) p in
      let t : StandsFor s b o S q (c ∷ above) (climb (l + 1 - σ.history.low) σ) =
      subst (λ (z : Held). StandsFor s b o S q (c ∷ above) z) (sym (climb_last l σ.history.low σ (omega arith))) (rise_close (climb (l - σ.history.low) σ) w') in
      let now = subst (λ (z : Bool). Outcome (ask_up (σ.history.top - l) σ.history x.start l z (last_end_at σ.history.branch l) 0) (ask (shape_of s) x o S q below f (p ∷ above)))
      (sym (has_low below σ.history.low l low)) (ask_stands below f (p ∷ above) l (last_end_at σ.history.branch l) 0 (omega arith) top lines able w w') in
      let up = seek_stands (below ++ f ∷ []) p above (l + 1) (omega (arith, length-append below (f ∷ []))) (omega arith)
      (subst (λ (z : ℕ). Lines σ.history.branch z (l + 1) (p ∷ above)) (sym (counted_snoc below f)) lines.1) (able_snoc below f p (l + 1) (last_end_at σ.history.branch (l + 1)))
      (rw append_assoc w)
      (subst (λ (z : Open). StandsFor s b o S q (z ∷ above) (climb (l + 1 - σ.history.low) σ)) (sym (gathered_more S below f p)) t) in
      subst (λ (z : ℕ). Outcome (asking σ.history x.start (cond (leb z x.start) l (lowest (length above) σ.history.branch x.start (l + 1)))) (seek (shape_of s) x o S q below f (p ∷ above)))
      (sym lines.0.2) (either (leb f.head.start x.start) l _ _ _ now up)

  pub begin_stands : (fs : List Open) → Some fs → Rooms (shape_of s) fs → StandsFor s b o S q fs σ → Outcome (settle σ.history x.start) (begin (shape_of s) x o S q fs)
  unfolding settle climb
  begin_stands [] y m w = absurd y
  begin_stands (f ∷ above) y m w =
      let n = w.numbers in
      let left : length above ≡ σ.history.top - σ.history.low = omega (arith, n.top) in
      let none_yet : 0 ≡ σ.history.low - σ.history.low = omega arith in
      subst (λ (z : ℕ). Outcome (asking σ.history x.start (lowest z σ.history.branch x.start σ.history.low)) (begin (shape_of s) x o S q (f ∷ above))) left
      (seek_stands [] f above σ.history.low (omega arith) n.top n.lines ((λ p. m.3 (omega (arith, n.lines.0.0))), n.last) w
      (subst (λ (z : ℕ). StandsFor s b o S q (f ∷ above) (climb z σ)) none_yet w))
