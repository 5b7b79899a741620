-- What the walk finds for a quark, and R7.
use Rattle.std.specs.Prelude.{ℕ, zero, suc, ◌+◌, Bool, cond, not, ◌&&◌, List, eqb}
use Rattle.layout.specs.declared.Entry.{Entry}
use Rattle.layout.specs.declared.Header.{Header}
use Rattle.layout.specs.Layout.{entry_size, entry_at, read_header, read_entry}
use Rattle.walk.specs.declared.View.{View}
use Rattle.walk.specs.Standing.{Walk}
use Rattle.walk.specs.Rules.{broken, kept, covers}
use Rattle.walk.specs.Walk.{place_of, step, root_of}

-- What was found is one number: 0 for nothing, p + 1 for the one entry at byte p, and this for more than one. All nodes take at most 2^32 bytes, and
-- an entry 32 of them, so that no p + 1 comes near it.
abbrev pub many : ℕ
many = 4294967295

-- one more, at byte p, after s
unfoldable pub more : ℕ → ℕ → ℕ
more s p = cond (eqb s 0) (p + 1) many

-- an entry at byte p, after s was found
unfoldable pub noted : ℕ → ℕ → ℕ → Entry → ℕ → ℕ
noted q t p e s = cond (eqb e.quark.0 q && covers t e) (more s p) s

-- "look at all its intervals": the n entries from byte p on
unfoldable pub look : List ℕ → ℕ → ℕ → ℕ → ℕ → ℕ → ℕ
look l q t p zero s = s
look l q t p (suc n) s = look l q t (p + entry_size) n (noted q t p (read_entry l p) s)

-- the node with header h at byte p; of one whose header breaks a rule nothing is looked at
unfoldable pub look_in : List ℕ → View → ℕ → ℕ → ℕ → Header → ℕ → Walk → ℕ → ℕ
look_in l v q t level h p w s = cond (kept (broken v w level h)) (look l q t (p + entry_at v.shape 0) h.intervals s) s

unfoldable pub look_at : List ℕ → View → ℕ → ℕ → ℕ → Walk → ℕ → ℕ
look_at l v q t level w s = look_in l v q t level (read_header l (place_of v w.place)) (place_of v w.place) w s

-- along the nodes that the walk enters
unfoldable pub found : List ℕ → View → ℕ → ℕ → ℕ → Walk → ℕ → ℕ
found l v q t zero w s = s
found l v q t (suc n) w s = cond w.go (found l v q t n (step l v t n w) (look_at l v q t n w s)) s

unfoldable pub found_of : List ℕ → View → ℕ → ℕ → ℕ
found_of l v q t = found l v q t (v.level + 1) (root_of v) 0

-- "R7 for each quark asked, exactly one covering interval"
unfoldable pub shown : ℕ → Bool
shown s = not (eqb s 0) && not (eqb s many)
