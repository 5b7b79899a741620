-- No node has more than K intervals or more than C children, and every open node above level 0 has a child.
use Prim.Native.Nat.{ℕ, zero, suc, ◌<◌}
use mathlib.Core.List.{List, [], ◌∷◌, ◌++◌}
use native.Mathlib.Omega.{arith}
use lib.ListN.{length, length-append}
use Rattle.model.specs.Transient.{Interval}
use Rattle.model.specs.Build.{next, Open, Shape, store, adopt, chain, Grown, insert, build}
use Rattle.model.specs.Nodes.{close_up, close_all}
use Rattle.model.specs.Invariant.{Shaped, Sizes, Upper, Rooms}
use Rattle.model.proofs.Keep.{tree_steps, sane_at, build_sound}
use Rattle.model.proofs.Legal.{Sanes}
use Rattle.model.proofs.Steps.{Storing, close, raise, grows, keeps}

module _ (sh : Shape) (shaped : Shaped sh) where
  pub adopt_rooms : (e : ℕ) (f p : Open) (above : List Open) → Rooms sh (f ∷ p ∷ above) → Rooms sh (adopt e f p ∷ above)
  adopt_rooms e f p above r = (r.4.0, omega (arith, r.4.1), (r.4.2, r.0, r.1, r.2), (λ x. tt), r.4.3)

  chain_rooms : (n q a : ℕ) (iv : Interval) (fs : List Open) → 0 < n → Upper sh fs → Rooms sh (chain n q a iv fs)
  chain_rooms zero q a iv fs h u = absurd (omega arith)
  chain_rooms (suc zero) q a iv fs h u = (shaped.intervals, omega arith, tt, (λ x. absurd (omega arith)), u)
  chain_rooms (suc (suc n)) q a iv fs h u = chain_rooms (suc n) (suc q) a iv _ (omega arith) (omega arith, omega (arith, shaped.children), tt, u)

  store_upper : (iv : Interval) (below : List Open) (f : Open) (above : List Open) → length f.head.held < sh.K → Upper sh (below ++ f ∷ above)
      → Upper sh (below ++ store iv f ∷ above)
  store_upper iv [] f above h u = (omega (arith, length-append f.head.held (iv ∷ [])), u.1, u.2, u.3)
  store_upper iv (g ∷ below) f above h u = (u.0, u.1, u.2, store_upper iv below f above h u.3)

  store_rooms : (iv : Interval) (below : List Open) (f : Open) (above : List Open) → length f.head.held < sh.K → Rooms sh (below ++ f ∷ above)
      → Rooms sh (below ++ store iv f ∷ above)
  store_rooms iv [] f above h r = (omega (arith, length-append f.head.held (iv ∷ [])), r.1, r.2, r.3, r.4)
  store_rooms iv (g ∷ below) f above h r = (r.0, r.1, r.2, r.3, store_upper iv below f above h r.4)

  pub steps_rooms : {iv : Interval} {o S q : ℕ} {fs : List Open} {r : Grown} → Storing sh iv o S q fs r → Rooms sh fs → Rooms sh r.branch
  steps_rooms {S = S} (close {f = f} {p = p} {above = above} s) r = steps_rooms s (adopt_rooms S f p above r)
  steps_rooms (raise s) r = steps_rooms s (omega arith, omega (arith, shaped.children), (tt, r.0, r.1, r.2), (λ x. tt), tt)
  steps_rooms {iv = iv} (grows {q = q} f above x y z) r =
      chain_rooms f.head.level q (next f.head.start f.closed) iv (f ∷ above) x (r.0, y, r.2, r.4)
  steps_rooms {iv = iv} (keeps below f above x y) r = store_rooms iv below f above x r

  pub build_rooms : (o : ℕ) (ivs : List Interval) → Sanes o ivs → Rooms sh (build sh o ivs).branch
  unfolding build insert
  build_rooms o [] h = (omega arith, omega arith, tt, (λ x. absurd (omega arith)), tt)
  build_rooms o (iv ∷ ivs) h =
      steps_rooms (tree_steps sh iv (build sh o ivs) shaped (sane_at sh o iv ivs h.0) (build_sound sh o ivs shaped h.1)) (build_rooms o ivs h.1)

  close_up_sizes : (e : ℕ) (f : Open) (above : List Open) → Rooms sh (f ∷ above) → Sizes sh (close_up e f above)
  close_up_sizes e f [] r = (tt, r.0, r.1, r.2)
  close_up_sizes e f (p ∷ above) r = close_up_sizes e (adopt e f p) above (adopt_rooms e f p above r)

  pub close_all_sizes : (e : ℕ) (fs : List Open) → Rooms sh fs → Sizes sh (close_all e fs)
  close_all_sizes e [] r = tt
  close_all_sizes e (f ∷ above) r = close_up_sizes e f above r
