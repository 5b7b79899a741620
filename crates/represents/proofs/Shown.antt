-- What record and nodes show of the tree, finished or not: the nodes used, their bytes, and the root. Assumes nothing.
use Prim.Native.Nat.{ℕ, ◌*◌}
use mathlib.Core.Bool.{Bool, true, false, cond}
use mathlib.Core.Path.{◌≡◌, refl, sym, ap, ◌∙◌}
use mathlib.Core.List.{List, [], ◌∷◌, ◌++◌}
use lib.ListN.{drop}
use Rattle.layout.specs.declared.Shape.{Shape}
use Rattle.layout.specs.Layout.{node_size}
use Rattle.record.specs.declared.Branch.{Branch}
use Rattle.record.specs.declared.History.{History}
use Rattle.record.specs.Levels.{place_at}
use Rattle.model.specs.Transient as M
use Rattle.model.specs.Transient.{Call}
use Rattle.model.specs.Build.{Head, Subtrees, childless, also, Open, Tree, adopt}
use Rattle.model.specs.Nodes.{∞, nodes, placed, close_up, close_all, tree_of, open_end, standing}
use Rattle.model.specs.Theorems.{left, tree, stands, made}
use Rattle.represents.specs.Represents.{shape_of, bytes_of}
use Rattle.represents.specs.Histories.{Rooted, Shows, Opening, run_of, Stands}
use Rattle.represents.proofs.Levels.{rooted}

-- ---- the root is what all hangs from

-- a tree that is one root, at this level and place, with the end e
abbrev pub RootAt : Branch → ℕ → ℕ → Subtrees → Type 0
RootAt b l e k = (root : Head) × (below : Subtrees) × (k ≡ also childless root e below) × (place_at b l ≡ placed root.seq) × (l ≡ root.level)

-- the parent, when its open child closes, is the same root
rooted_adopt : (b : Branch) (l e : ℕ) (f p : Open) (above : List Open) → Rooted b l (p ∷ above) → Rooted b l (adopt e f p ∷ above)
rooted_adopt b l e f p [] r = r
rooted_adopt b l e f p (g ∷ above) r = r

root_up : (b : Branch) (l e : ℕ) (f : Open) (above : List Open) → Rooted b l (f ∷ above) → RootAt b l e (close_up e f above)
root_up b l e f [] r = (f.head, f.closed, refl, r.1, r.0)
root_up b l e f (p ∷ above) r = root_up b l e (adopt e f p) above (rooted_adopt b l e f p above r)

root_of_lem : (b : Branch) (l e : ℕ) (fs : List Open) → Rooted b l fs → RootAt b l e (close_all e fs)
root_of_lem b l e [] r = absurd r
root_of_lem b l e (f ∷ above) r = root_up b l e f above r

-- ---- what is shown

module _ (s : Shape) (l : M.History) (h : History) (b table : List ℕ) (shows : Shows s l h b table) where
  abbrev t : Tree
  t = tree_of (shape_of s) l

  used_shown : h.used ≡ t.used
  used_shown = go l.finished refl
    where
      go : (f : Bool) → l.finished ≡ f → h.used ≡ t.used
      go true e = (shows.after e).used
      go false e = (shows.until e).tree.numbers.used

  root_shown : Rooted h.branch h.top t.branch
  root_shown = go l.finished refl
    where
      go : (f : Bool) → l.finished ≡ f → Rooted h.branch h.top t.branch
      go true e = (shows.after e).root
      go false e =
          let u = (shows.until e).tree in
          rooted h.branch s t.start t.largest t.used h.top h.low t.branch u.some u.numbers.top u.numbers.lines

  bytes_shown : b ≡ bytes_of s (nodes (standing (shape_of s) l)) ++ drop (t.used * node_size s) b
  unfolding standing
  bytes_shown = go l.finished refl
    where
      go : (f : Bool) → l.finished ≡ f → b ≡ bytes_of s (nodes (close_all (open_end l) t.branch)) ++ drop (t.used * node_size s) b
      go true e =
          (shows.after e).bytes ∙ ap (λ (x : Bool). bytes_of s (nodes (close_all (cond x l.latest ∞) t.branch)) ++ drop (t.used * node_size s) b) (sym e)
      go false e =
          (shows.until e).tree.bytes ∙ ap (λ (x : Bool). bytes_of s (nodes (close_all (cond x l.latest ∞) t.branch)) ++ drop (t.used * node_size s) b) (sym e)

-- ---- at a run

module _ (p : Opening) (cs : List Call) (h : History) (b table : List ℕ) (at : Stands p cs h b table) where
  pub same_shape : (run_of p cs).shape ≡ shape_of h.shape
  same_shape = ap shape_of (sym at.shows.shape)

  pub same_used : h.used ≡ (tree (run_of p cs)).used
  same_used = used_shown p.shape (left (run_of p cs)) h b table at.shows

  -- the buffer begins with the bytes of the nodes
  pub same_bytes : b ≡ bytes_of h.shape (made (run_of p cs)) ++ drop ((tree (run_of p cs)).used * node_size p.shape) b
  same_bytes =
      bytes_shown p.shape (left (run_of p cs)) h b table at.shows
      ∙ ap (λ (s : Shape). bytes_of s (made (run_of p cs)) ++ drop ((tree (run_of p cs)).used * node_size p.shape) b) (sym at.shows.shape)

  -- the record's top level is the root
  pub same_root : RootAt h.branch h.top (open_end (left (run_of p cs))) (stands (run_of p cs))
  unfolding standing
  same_root = root_of_lem h.branch h.top (open_end (left (run_of p cs))) (tree (run_of p cs)).branch (root_shown p.shape (left (run_of p cs)) h b table at.shows)
