-- What was printed of a feed so far, and what is still to come. Assumes nothing.
use Rattle.std.proofs.Common.{◌≡◌, ℕ, zero, suc, ◌+◌, ◌≤◌, List, [], ◌++◌, Option, Some, None, Result, Ok, Err, arith, length, refl, sym, ap, ◌∙◌, subst, append_assoc, append-nil}
use Rattle.std.specs.Io.KnownBytes.{Appends}
use Rattle.std.proofs.KnownBytes.{Appends-nil, Appends-trans}
use Rattle.record.specs.declared.Refusal.{Refusal}
use Rattle.feed.specs.declared.Record.{Record}
use Rattle.feed.specs.declared.Reading.{Reading}
use Rattle.feed.specs.Feed.{reading, reading_at, GoesOn}
use Rattle.feed.proofs.Places.{goes_ahead}
use Rattle.history.specs.Step.{carried}
use Rattle.history.specs.Text.{said}
use Rattle.history.specs.Printed.{Held, held_in, answered, before, go_on, printed_from, printed}

-- A writer that held `old` holds `now`: of all that is printed of a feed, what stands before place p, where number i is next.
pub record Gone (old now : Option (List ℕ)) (all l : List ℕ) (p i : ℕ) (h : Held) : Type 0 where
  pub text : List ℕ
  pub readings : ℕ
  pub told : Appends old now text
  pub rest : all ≡ text ++ printed_from readings l p i h
  pub enough : length l ≤ p + readings

pub begins : (a : Option (List ℕ)) (l f : List ℕ) (p i : ℕ) (h : Held) → f ≡ l → p ≡ 0 → i ≡ 0 → (f ≡ l) × Gone a a (printed l h) l p i h
begins a l f p i h same place number = (same, rw (place, number) (record { text = []; readings = length l; told = Appends-nil a; rest = refl; enough = omega arith }))

module _ (old now : Option (List ℕ)) (all l : List ℕ) (p i : ℕ) (h : Held) (gone : Gone old now all l p i h) where
  pub ends : reading_at l p ≡ None → Appends old now all
  unfolding printed_from
  ends e = subst (Appends old now) (sym (gone.rest ∙ ap (λ (t : List ℕ). gone.text ++ t) (nothing gone.readings) ∙ append-nil gone.text)) gone.told
    where
      nothing : (n : ℕ) → printed_from n l p i h ≡ []
      nothing zero = refl
      nothing (suc n) = rw e

  -- one reading, of which xs is printed
  goes : (x : Result Record Refusal) (q : ℕ) (k : Held) (xs : List ℕ) (later : Option (List ℕ)) → reading_at l p ≡ reading x q
      → ((next : Held → List ℕ) → before i h x next ≡ xs ++ next k) → Appends now later xs → Gone old later all l q (i + 1) k
  unfolding printed_from
  goes x q k xs later e says told = go gone.readings gone.rest gone.enough
    where
      go : (n : ℕ) → all ≡ gone.text ++ printed_from n l p i h → length l ≤ p + n → Gone old later all l q (i + 1) k
      go zero rest enough = let a = goes_ahead l p (record { what = x; next = q }) e in absurd (omega arith)
      go (suc n) rest enough = let a = goes_ahead l p (record { what = x; next = q }) e in record {
        text = gone.text ++ xs;
        readings = n;
        told = Appends-trans old now later gone.text xs gone.told told;
        rest = rest ∙ ap (λ (y : Option Reading). gone.text ++ go_on i h y (λ q k. printed_from n l q (i + 1) k)) e ∙ ap (λ (t : List ℕ). gone.text ++ t) (says _) ∙ sym (append_assoc gone.text xs _);
        enough = omega arith;
      }

  -- a step of a reader of l at p, whose item has number n, and m is next
  module _ (f k : List ℕ) (x : Result Record Refusal) (q n m : ℕ) (later : Option (List ℕ)) (same : f ≡ l) (step : GoesOn f p (Some x) k q) (number : n ≡ i) (next : m ≡ i + 1) where
    pub refused : (what : Refusal) → x ≡ Err what → Appends now later (said n (Err what)) → (k ≡ l) × Gone old later all l q m h
    refused what is told = (step.0 ∙ same, rw next (goes (Err what) q h (said i (Err what)) later (rw (← same, ← is) step.1) (λ next. refl) (rw number at told)))

    pub read : (r : Record) (j : Held) → x ≡ Ok r → Appends now later (answered n (carried r h.state h.nodes h.table h.answer)) → j ≡ held_in (carried r h.state h.nodes h.table h.answer)
        → (k ≡ l) × Gone old later all l q m j
    read r j is told left =
        let y = carried r h.state h.nodes h.table h.answer in
        (step.0 ∙ same, rw (next, left) (goes (Ok r) q (held_in y) (answered i y) later (rw (← same, ← is) step.1) (λ next. refl) (rw number at told)))
