-- Several intervals: the trial on the record answers what the model's `limits` says, and what stands after them represents the model's tree. Assumes nothing.
use Prim.Native.Nat.{ℕ, zero, suc}
use mathlib.Core.Bool.{Bool, true, false, cond, true≢false}
use mathlib.Core.Path.{◌≡◌, refl, sym, ap, ◌∙◌, subst}
use mathlib.Core.List.{List, [], ◌∷◌, reverse, reverse_aux}
use Rattle.layout.specs.declared.Shape.{Shape}
use Rattle.record.specs.Refusals.{Reply, Nothing, number_of, accepted}
use Rattle.settle.specs.Settle.{settle, plan_refusal}
use Rattle.build.specs.Moves.{Held}
use Rattle.build.specs.Write.{inserted}
use Rattle.build.specs.Trial.{tried}
use Rattle.build.proofs.Plans.{then_nothing}
use Rattle.build.proofs.Trials.{tried_refusal}
use Rattle.build.proofs.Steps.{inserted_history}
use Rattle.model.specs.Build as M
use Rattle.model.specs.Transient.{Interval}
use Rattle.model.specs.Build.{Tree, insert, onto}
use Rattle.model.specs.Refusals.{limit, sooner, limits}
use Rattle.model.proofs.Legal.{Sane, Sanes}
use Rattle.represents.specs.Represents.{shape_of, entry_of, Represents}
use Rattle.represents.specs.Run.{tried_all, inserted_all, Early}
use Rattle.represents.proofs.Linked.{number_nothing, refused_same, inserted_represents}

-- ---- the model: the first refusal stays

sooner_stays : (a b : ℕ) → (a ≡ 0 → ⊥) → sooner a b ≡ a
sooner_stays zero b ne = absurd (ne refl)
sooner_stays (suc a) b ne = refl

limits_stay : (sh : M.Shape) (N : ℕ) (t : Tree) (later ys : List Interval) → (limits sh N ys t ≡ 0 → ⊥) → limits sh N (reverse_aux later ys) t ≡ limits sh N ys t
unfolding limits
limits_stay sh N t [] ys ne = refl
limits_stay sh N t (y ∷ later) ys ne =
    let e = sooner_stays (limits sh N ys t) (limit N (onto sh (y ∷ ys) t)) ne in
    limits_stay sh N t later (y ∷ ys) (λ z. ne (sym e ∙ z)) ∙ e

limits_next : (sh : M.Shape) (N : ℕ) (t : Tree) (x : Interval) (ys : List Interval) → limits sh N ys t ≡ 0 → limits sh N (x ∷ ys) t ≡ limit N (insert sh x (onto sh ys t))
unfolding limits onto
limits_next sh N t x ys e = ap (λ (z : ℕ). sooner z (limit N (insert sh x (onto sh ys t)))) e

onto_start : (sh : M.Shape) (ys : List Interval) (t : Tree) → (onto sh ys t).start ≡ t.start
unfolding onto insert
onto_start sh [] t = refl
onto_start sh (y ∷ ys) t = onto_start sh ys t

-- ---- the record: one interval, and the rest

module _ (x : Interval) (later : List Interval) (σ : Held) where
  abbrev said : Reply
  said = plan_refusal σ.history (settle σ.history x.start)

  abbrev choice : Reply → Reply
  choice r = cond (accepted r) (tried_all later (tried σ.history x.start x.end).history) r

  tried_first : tried_all (x ∷ later) σ.history ≡ choice said
  unfolding tried_all
  tried_first = ap choice (tried_refusal σ.history x.start x.end)

  tried_on : said ≡ Nothing → tried_all (x ∷ later) σ.history ≡ tried_all later (inserted (entry_of x) σ).history
  tried_on e = tried_first ∙ ap choice e ∙ ap (tried_all later) (sym (inserted_history (entry_of x) σ))

  tried_ends : accepted said ≡ false → tried_all (x ∷ later) σ.history ≡ said
  tried_ends e = tried_first ∙ ap (λ (b : Bool). cond b (tried_all later (tried σ.history x.start x.end).history) said) e

-- ---- both

module _ (s : Shape) (t : Tree) where
  abbrev Answer : List Interval → List Interval → Held → Type 0
  Answer xs ys σ =
      (number_of (tried_all xs σ.history) ≡ limits (shape_of s) s.n (reverse_aux xs ys) t)
      × (tried_all xs σ.history ≡ Nothing → Represents s (onto (shape_of s) (reverse_aux xs ys) t) (inserted_all xs σ))

  -- the first interval is tried: the rest follow it, or nothing does
  run_step : (x : Interval) (later ys : List Interval) (σ : Held) → number_of (said x later σ) ≡ limits (shape_of s) s.n (x ∷ ys) t
      → (said x later σ ≡ Nothing → Answer later (x ∷ ys) (inserted (entry_of x) σ)) → (b : Bool) → accepted (said x later σ) ≡ b → Answer (x ∷ later) ys σ
  unfolding inserted_all number_of
  run_step x later ys σ same next true e =
      let p = then_nothing σ.history (settle σ.history x.start) e in
      let on = tried_on x later σ p in
      (ap number_of on ∙ (next p).0, λ z. (next p).1 (sym on ∙ z))
  run_step x later ys σ same next false e =
      let end = tried_ends x later σ e in
      let no : number_of (said x later σ) ≡ 0 → ⊥ = λ z. true≢false (sym (ap accepted (number_nothing σ.history (settle σ.history x.start) z)) ∙ e) in (
        ap number_of end ∙ same ∙ sym (limits_stay (shape_of s) s.n t later (x ∷ ys) (λ z. no (same ∙ z))),
        λ z. absurd (no (ap number_of (sym end ∙ z))),
      )

  -- xs, where ys are stored already
  run_from : (xs ys : List Interval) (σ : Held) → Represents s (onto (shape_of s) ys t) σ → limits (shape_of s) s.n ys t ≡ 0 → Sanes t.start xs → Early xs
      → Answer xs ys σ
  unfolding tried_all inserted_all number_of onto
  run_from [] ys σ rep none sane early = (sym none, λ e. rep)
  run_from (x ∷ later) ys σ rep none sane early =
      let u = onto (shape_of s) ys t in
      let same : number_of (said x later σ) ≡ limits (shape_of s) s.n (x ∷ ys) t = refused_same s x u σ early.0 rep ∙ sym (limits_next (shape_of s) s.n t x ys none) in
      let from : Sane u.start x = subst (λ (z : ℕ). Sane z x) (sym (onto_start (shape_of s) ys t)) sane.0 in
      run_step x later ys σ same
      (λ p. run_from later (x ∷ ys) (inserted (entry_of x) σ) (inserted_represents s x u σ early.0 rep from p) (sym same ∙ ap number_of p) sane.1 early.1)
      (accepted (said x later σ)) refl

  -- refused, with 10 or 11, exactly when the model's run is
  pub run_refused_same : (xs : List Interval) (σ : Held) → Represents s t σ → Sanes t.start xs → Early xs
      → number_of (tried_all xs σ.history) ≡ limits (shape_of s) s.n (reverse xs) t
  unfolding onto limits
  run_refused_same xs σ rep sane early = (run_from xs [] σ rep refl sane early).0

  -- and if it is not, what stands represents the tree after all of them
  pub run_represents : (xs : List Interval) (σ : Held) → Represents s t σ → Sanes t.start xs → Early xs → tried_all xs σ.history ≡ Nothing
      → Represents s (onto (shape_of s) (reverse xs) t) (inserted_all xs σ)
  unfolding onto limits
  run_represents xs σ rep sane early passed = (run_from xs [] σ rep refl sane early).1 passed
