use Rattle.std.proofs.Common.{sym, ◌∙◌}
use Rattle.uc_asm.proofs.Exact.{code-some, code-few, place-inside}
use Rattle.uc_asm.proofs.assembler.assembled.Goals as goal

pub new-code-requires-clause-some : goal.new-code-requires-clause-some
new-code-requires-clause-some c =
    code-some c.args.text.now c.in_ok-read.read.params c.in_ok-read.read.items.items c.deref.result.now c.in_ok-list.list.items c.in_ok-read.ensures.reads c.deref.ensures.value c.in_ok-list.ensures.resolved

pub new-code-requires-clause-few : goal.new-code-requires-clause-few
new-code-requires-clause-few c = code-few c.in_ok-read.read.items.items c.deref.result.now c.in_ok-list.list.items c.in_ok-read.ensures.few c.deref.ensures.value c.in_ok-list.ensures.resolved

pub line_of-requires-clause-inside : goal.line_of-requires-clause-inside
line_of-requires-clause-inside c =
    place-inside c.deref.result.now c.deref-in-Some.result.now c.in_ok-list.list.items c.new-code.result.list c.in-Some.place c.in-Some.rule (c.deref.ensures.value ∙ sym c.deref-in-Some.ensures.value) c.new-code.ensures.list c.in_ok-list.ensures.resolved c.in-Some.ensures.first
