use Rattle.std.proofs.Common.{◌&&◌, ap, subst, ◌∙◌, [], refl}
use Rattle.std.specs.List.{list_all}
use Rattle.flow_words.specs.declared.walk.State.{State}
use Rattle.flow_words.specs.Tables.{is_old}
use Rattle.flow_words.specs.inner.Placed.{place, AreEntered}
use Rattle.flow_words.specs.inner.Undone.{undone}
use Rattle.flow_words.proofs.Going.{along_let, along_read, along_write, along_if, jump_done, halt_done}
use Rattle.flow_words.proofs.walk.+reduced.Goals as goal

pub spine-preserved-in-Let : goal.spine-preserved-in-Let
spine-preserved-in-Let t c = along_let c.in-Let.x c.in-Let.p _ _ _ c.spine.invariant c.in-Let.is c.deref-cur.ensures c.in_ok-put_let-in-Let.ensures

pub spine-preserved-in-Read : goal.spine-preserved-in-Read
spine-preserved-in-Read t c =
    let s = c.spine.state in
    let from = place (record s { sound = c.both-state.result }) c.spine.saved.items [] in
    let to = place c.enter_all.new.state c.enter_all.new.saved.items [] in
    along_read to (place c.enter_all.new.state c.enter_all.new.saved.items c.push_step.new.steps.items) c.in-Read.m c.in-Read.xs c.in_ok-short_numbers-in-Read.field-0 c.in-Read.a _ _ _ c.both-state.result c.spine.invariant c.in-Read.is c.deref-cur-in-Read.ensures
    (c.both-state.ensures ∙ ap (λ b. s.sound && b) c.is_old.ensures)
    (subst (λ l. AreEntered l from to) c.deref.ensures c.in_ok-enter_all-in-Read.ensures)
    (c.in_ok-short_numbers-in-Read.ensures ∙ c.deref-in-Read.ensures)
    (ap (place c.enter_all.new.state c.enter_all.new.saved.items) c.in_ok-push_step-in-Read.ensures)

pub spine-preserved-in-Write : goal.spine-preserved-in-Write
spine-preserved-in-Write t c =
    let s = c.spine.state in
    along_write (place (record s { sound = c.both-state-in-Write-2.result }) c.spine.saved.items c.push_step-in-Write.new.steps.items) c.in-Write.m c.in-Write.a c.in-Write.bs c.in_ok-short_atoms-in-Write.field-0 _ _ _ c.both-state-in-Write-2.result c.spine.invariant c.in-Write.is c.deref-cur-in-Write.ensures
    (c.in_ok-short_atoms-in-Write.ensures ∙ c.deref-in-Write-2.ensures)
    (c.both-state-in-Write-2.ensures ∙ ap (λ b. b && c.are_old.result) (c.both-state-in-Write.ensures ∙ ap (λ b. s.sound && b) c.is_old-in-Write.ensures)
    ∙ ap (λ b. (s.sound && is_old s.base c.in-Write.a) && b) (c.are_old.ensures ∙ ap (list_all (is_old s.base)) c.deref-in-Write.ensures))
    (ap (place (record s { sound = c.both-state-in-Write-2.result }) c.spine.saved.items) c.in_ok-push_step-in-Write.ensures)

pub spine-preserved : goal.spine-preserved
spine-preserved t c =
    let s = c.spine.state in
    along_if (record s { sound = c.both-state-in-If-2.result }) c.reduced.new.state (place c.reduced.new.state c.spine.saved.items c.push_step-in-If.new.steps.items) c.in-If.c c.in-If.a c.in-If.b _ _ _ _ c.deref-in-If.result.now _ c.in_ok-u-in-If.u c.spine.invariant c.in-If.is c.deref-in-If.ensures c.deref-cur-in-If.ensures c.in_ok-u-in-If.ensures
    refl refl refl
    (c.both-state-in-If-2.ensures ∙ ap (λ b. b && c.is_old-in-If-2.result) (c.both-state-in-If.ensures ∙ ap (λ b. s.sound && b) c.is_old-in-If.ensures)
    ∙ ap (λ b. (s.sound && is_old s.base c.in-If.a) && b) c.is_old-in-If-2.ensures)
    refl refl (ap (undone c.spine.saved.items) c.in_ok-u-in-If.ensures.table) refl refl c.in_ok-push_step-in-If.ensures

pub returns-in-Jump : goal.returns-in-Jump
returns-in-Jump t c =
    let s = c.spine.state in
    let z : State = record s { table = c.restore.new.table; sound = c.both-state-in-Jump.result } in
    jump_done c.args.state.now z (place s c.spine.saved.items c.spine.steps.items) c.args.t.now c.spine.cur.now c.in-Jump.l c.in-Jump.bs c.in_ok-words-in-Jump.words.items c.in_ok-joined-in-Jump.field-0 c.spine.invariant c.in-Jump.is
    (c.in_ok-words-in-Jump.ensures ∙ c.deref-in-Jump-2.ensures.value) refl c.in_ok-restore-in-Jump.ensures refl
    (c.both-state-in-Jump.ensures ∙ ap (λ b. s.sound && b) (c.are_old-in-Jump.ensures ∙ ap (list_all (is_old s.base)) c.deref-in-Jump.ensures.value)) c.in_ok-joined-in-Jump.ensures

pub returns-in-Halt : goal.returns-in-Halt
returns-in-Halt t c =
    let s = c.spine.state in
    let z : State = record s { table = c.restore-in-Halt.new.table; sound = c.both-state-in-Halt.result } in
    halt_done c.args.state.now z (place s c.spine.saved.items c.spine.steps.items) c.args.t.now c.spine.cur.now c.in-Halt.e c.in-Halt.bs c.in_ok-words-in-Halt.words.items c.in_ok-joined-in-Halt.field-0 c.spine.invariant c.in-Halt.is
    (c.in_ok-words-in-Halt.ensures ∙ c.deref-in-Halt-2.ensures) refl c.in_ok-restore-in-Halt.ensures refl
    (c.both-state-in-Halt.ensures ∙ ap (λ b. s.sound && b) (c.are_old-in-Halt.ensures ∙ ap (list_all (is_old s.base)) c.deref-in-Halt.ensures)) c.in_ok-joined-in-Halt.ensures
