-- Every definition that the calls and questions are made of, opened by one name.
use Rattle.words.specs.Words as W
use Rattle.layout.specs.Layout as L
use Rattle.record.specs.Refusals as RR
use Rattle.record.specs.Sound as RS
use Rattle.record.specs.Moves as RM
use Rattle.transient.specs.Transient as T
use Rattle.settle.specs.Settle as S
use Rattle.build.specs.Moves as BM
use Rattle.build.specs.Write as BW
use Rattle.build.specs.Trial as BT
use Rattle.calls.specs.Open as O
use Rattle.calls.specs.Change as C
use Rattle.calls.specs.Add as A
use Rattle.calls.specs.Finish as F
use Rattle.walk.specs.View as QV
use Rattle.walk.specs.Rules as R
use Rattle.walk.specs.Walk as QW
use Rattle.questions.specs.Found as QF
use Rattle.questions.specs.Single as QS
use Rattle.full_question.specs.Full as QA
use Rattle.demands.specs.Runs.{step, run}
use Rattle.demands.specs.Examples.{entries, spoken, bounds_from, nodes_of}

-- `unfolding computing` opens all of them
unfoldable pub computing : Unit {0}
unfolding step run entries spoken bounds_from nodes_of
    W.le W.num
    L.node_size L.child_at L.entry_at L.bounds L.counts L.header_bytes L.child_bytes L.entry_bytes L.padded L.body L.encode L.new_node
    RR.number_of
    RS.shape_allowed RS.numbers_sound RS.all RS.level_sound RS.apart RS.levels_sound RS.starts_fall RS.last_end_sound RS.branch_sound RS.sound RS.long_enough
    RM.level_new RM.level_child RM.level_stored RM.level_closed RM.with_branch RM.with_largest RM.at_time RM.with_attribute RM.finished_at RM.closed RM.raised RM.made RM.stored RM.stretched
    T.state_sound T.ongoing_at T.interval T.with_ongoing T.begins T.ongoing_sound T.increased T.becomes T.same_state T.decided T.decide
    S.ruled S.followed S.ask_up S.lowest S.settle S.needed S.plan_refusal
    BM.parent_at BM.head_of BM.stands_at BM.put_head BM.put_new BM.close BM.raise BM.with_child BM.make BM.store
    BW.rise BW.climb BW.descend BW.stretch BW.placed BW.written BW.inserted BW.close_all BW.planted
    BT.rise_on BT.climb_on BT.descend_on BT.placed_on BT.planned BT.tried
    O.blank O.opened O.table_opened O.open_refusal O.open_on O.open_of
    C.carried C.change_refusal C.change_of
    A.add_refusal A.add_of
    F.all_sound F.trial F.finish_refusal F.stored_from F.finish_of
    QV.view_of QV.asked
    R.r1 R.r2 R.r3 R.r4 R.r5 R.broken R.entry_sound R.holds R.covers
    QW.root_of QW.ended QW.counted QW.onward QW.all_sound QW.pick QW.child QW.down_to QW.descend QW.inside QW.enter QW.step QW.walk QW.walk_of
    QF.more QF.noted QF.look QF.look_in QF.look_at QF.found QF.found_of QF.shown
    QS.refused_single QS.told QS.told_entry QS.from_table QS.table_entry QS.entry_fine QS.single_answer QS.single_refusal QS.single_of
    QA.alone QA.full_entry QA.every_quark QA.full_entries QA.refused_full QA.full_refusal QA.full_of QA.full_written
computing = tt
