-- Every statement of Theorems, proved for every run that opening allows.
use mathlib.Core.Bool.{Bool, true, false, cond}
use mathlib.Core.Path.{◌≡◌, refl, ap, ◌∙◌}
use mathlib.Core.List.Permᴰ
use mathlib.Core.List.{◌∷◌, map}
use native.Mathlib.Omega.{arith}
use lib.Dec.{eqb}
use lib.ListN.{get_or}
use borrow.Author.Tests.{eqb-true}
use Rattle.model.specs.Transient.{history}
use Rattle.model.specs.Nodes.{blank, nodes, open_end, standing}
use Rattle.model.specs.Refusals.{refuse, accepted}
use Rattle.model.specs.Theorems.{Run, Allowed, taken, left, tree, made, TreeSound, WithinLimits, StoredInOrder, StoredOnTop, NewRootAsked, Numbered, EachNodeOnce, ClosedKept, OpenOrEnded, StoredOnce, OneCovers, SingleScans, FullScans, SingleEnters, FullEnters, ValueSaid, FullSaid, WalkedByPlace, NodesSit, QuarksKnown, OneFound, Values64, ShapeFree}
use Rattle.model.proofs.Answers.{stands_once, single_scan, full_scan, single_said, single_entered, full_entered, found_one}
use Rattle.model.proofs.Bounded.{table_within, stored_within, perm_within}
use Rattle.model.proofs.EachNode.{nodes_perm, perm_intervals}
use Rattle.model.proofs.Keep.{build_sound}
use Rattle.model.proofs.Kept.{numbered, kept, ended_by}
use Rattle.model.proofs.Legal.{Legal, legal_more, legal_accepted, asked_single, asked_full}
use Rattle.model.proofs.Limits.{within_limits}
use Rattle.model.proofs.NewRoot.{new_root_asked}
use Rattle.model.proofs.Onto.{step_tree, build_fold}
use Rattle.model.proofs.Passes.{passes, perm_known, quarks}
use Rattle.model.proofs.ShapeFree.{shape_free}
use Rattle.model.proofs.Sized.{build_rooms}
use Rattle.model.proofs.Storable.{storable}
use Rattle.model.proofs.Told.{told}
use Rattle.model.proofs.FullSaid.{scans_said}
use Rattle.model.proofs.Walked.{walked}

pub stored_in_order : StoredInOrder
stored_in_order = build_fold

pub stored_on_top : StoredOnTop
stored_on_top = step_tree

pub new_root_lem : NewRootAsked
new_root_lem = new_root_asked

module _ (r : Run) where
  pub shape_does_not_show : ShapeFree r
  shape_does_not_show = shape_free r.shape r.room r.entries r.start r.attributes r.calls

module _ (r : Run) (allowed : Allowed r) where
  legal : Legal r.start r.attributes (taken r)
  legal = legal_accepted r.shape r.room r.entries r.start r.attributes r.calls allowed.begins

  pub tree_sound : TreeSound r
  tree_sound = let c = storable r.start r.attributes (taken r) legal in record {
    sound = build_sound r.shape (left r).start (left r).stored allowed.shaped c.sane;
    rooms = build_rooms r.shape allowed.shaped (left r).start (left r).stored c.sane;
  }

  pub stays_within_limits : WithinLimits r
  stays_within_limits =
      let w = within_limits r.shape r.room r.entries r.start r.attributes r.calls allowed.some in
      record { deep = w.0; used = w.1 }

  pub nodes_numbered : Numbered r
  nodes_numbered = numbered r.shape allowed.shaped r.start r.attributes (taken r) legal

  pub each_node_once : EachNodeOnce r
  unfolding standing
  each_node_once = nodes_perm (open_end (left r)) (tree r).branch

  pub closed_kept : ClosedKept r
  unfolding accepted
  closed_kept c i h x = go (eqb (refuse r.shape r.room r.entries (left r) c) 0) refl
    where
      go : (b : Bool) → eqb (refuse r.shape r.room r.entries (left r) c) 0 ≡ b
          → get_or (nodes (standing r.shape (history r.start r.attributes (cond b (c ∷ taken r) (taken r))))) i blank ≡ get_or (made r) i blank
      go true e = kept r.shape allowed.shaped r.start r.attributes c (taken r)
          (legal_more r.shape r.room r.entries r.start r.attributes c (taken r) (eqb-true _ 0 e) legal) i h x
      go false e = refl

  pub open_or_ended : OpenOrEnded r
  open_or_ended = ended_by r.shape allowed.shaped r.start r.attributes (taken r) legal

  pub stored_once : StoredOnce r
  stored_once = Permᴰ.trans (perm_intervals each_node_once) (stands_once r.shape r.start r.attributes (taken r) allowed.shaped legal)

  pub one_covers : OneCovers r
  one_covers q t e =
      let d = asked_single (left r) q t e in let w = told r.start r.attributes (taken r) q t legal d.0 d.1 d.2 in (w.0, w.1)

  pub single_scans : SingleScans r
  single_scans q t e =
      let d = asked_single (left r) q t e in
      single_scan r.shape r.start r.attributes (taken r) allowed.shaped legal q t d.0 d.1 d.2

  pub full_scans : FullScans r
  full_scans t e = let d = asked_full (left r) t e in full_scan r.shape r.start r.attributes (taken r) allowed.shaped legal t d.0 d.1

  pub single_enters : SingleEnters r
  single_enters = single_entered r.shape r.start r.attributes (taken r) allowed.shaped legal

  pub full_enters : FullEnters r
  full_enters = full_entered r.shape r.start r.attributes (taken r) allowed.shaped legal

  pub value_said : ValueSaid r
  value_said q t e =
      let d = asked_single (left r) q t e in
      single_said r.shape r.start r.attributes (taken r) allowed.shaped legal q t d.0 d.1 d.2

  pub full_said : FullSaid r
  full_said t e =
      let d = asked_full (left r) t e in
      let w = scans_said r.start r.attributes (taken r) t (left r).attributes legal (omega arith) d.0 d.1 in
      (ap (map (λ x. x.quark)) (full_scans t e) ∙ w.0, ap (map (λ x. x.state)) (full_scans t e) ∙ w.1)

  pub walked_by_place : WalkedByPlace r
  walked_by_place = let w = walked r.shape allowed.shaped r.start r.attributes (taken r) legal in
      record { root = w.0; below = w.1; rooted = w.2; walked = λ t e. let d = asked_full (left r) t e in w.3 t d.0 d.1 }

  pub nodes_sit : NodesSit r
  nodes_sit = passes r.shape allowed.shaped r.start r.attributes (taken r) legal

  pub quarks_known : QuarksKnown r
  quarks_known =
      perm_known (left r).attributes (perm_intervals each_node_once) (quarks r.shape allowed.shaped r.start r.attributes (taken r) legal)

  pub one_found : OneFound r
  one_found q t e =
      let d = asked_single (left r) q t e in
      found_one r.shape r.start r.attributes (taken r) allowed.shaped legal q t d.0 d.1 d.2

  pub values_64 : Values64 r
  values_64 a = let s = stored_within r.shape r.room r.entries r.start r.attributes r.calls a in record {
    table = table_within r.shape r.room r.entries r.start r.attributes r.calls a;
    stored = s;
    held = perm_within stored_once s;
  }
