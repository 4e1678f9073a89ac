use Rattle.std.proofs.Common.{◌∙◌, sym, true≢false}
use Rattle.serde_json.specs.Errors.{IsMemory}
use Rattle.nova_lsp.proofs.Readings.{of_unread}
use Rattle.nova_lsp.proofs.session.Session.respond.Goals as goal

pub returns-else-is_memory-clause-message : goal.returns-else-is_memory-clause-message
returns-else-is_memory-clause-message c = λ utf8 d h.
    let other : IsMemory c.in-Err.error → ⊥ = λ m. true≢false (sym (c.is_memory.ensures.1 m) ∙ c.if-is_memory.false) in
    of_unread c.args.content.now d _ h (c.in-Err.ensures.err other utf8)
