use Rattle.std.proofs.Common.{List, [], ℕ, ◌∙◌, length, refl, subst}
use Rattle.std.proofs.lemmas.Result.{err_from_is_err_and}
use Rattle.nv_ast.specs.TypedView.{typed_program}
use Rattle.novac_words.specs.Limits.{slots_limit, budget_default, store_limit}
use Rattle.nova_compile.specs.inner.Parts.{IsBuilt}
use Rattle.novac_commands.proofs.Generated.{made-short, made-refused, made-room, made-word, generated-by}
use Rattle.novac_commands.proofs.generate.generate.Goals as goal

pub compiled_of-requires-clause-short : goal.compiled_of-requires-clause-short
compiled_of-requires-clause-short c = made-short c.args.seed c.args.size c.deref.result.now c.requires.some c.requires.few (c.deref.ensures.value ∙ c.in_ok-source.ensures)

pub compiled_of-requires-clause-narrow : goal.compiled_of-requires-clause-narrow
compiled_of-requires-clause-narrow c = made-room c.args.seed c.args.size c.deref.result.now c.requires.some c.requires.few (c.deref.ensures.value ∙ c.in_ok-source.ensures)

pub returns-in_err-compiled-clause-refused : goal.returns-in_err-compiled-clause-refused
returns-in_err-compiled-clause-refused c =
    let p = err_from_is_err_and c.from_residual-in_err-compiled.result c.from_residual-in_err-compiled.ensures.1 in
    rw (p.1, p.2) (made-refused c.args.seed c.args.size c.deref.result.now _ c.requires.some c.requires.few (c.deref.ensures.value ∙ c.in_ok-source.ensures) c.in_err-compiled.ensures.refused)

pub text_of-text-requires-clause-word : goal.text_of-text-requires-clause-word
text_of-text-requires-clause-word c =
    made-word c.args.seed c.args.size c.deref.result.now (typed_program c.in_ok-compiled.compiled.typed) c.requires.some c.requires.few (c.deref.ensures.value ∙ c.in_ok-source.ensures) c.in_ok-compiled.ensures.built.is_source

pub returns-clause-generated : goal.returns-clause-generated
returns-clause-generated c =
    let h = c.in_ok-text.ensures in
    generated-by c.args.seed c.args.size c.in_ok-source.source.items c.in_ok-text.field-0.items c.in_ok-compiled.compiled _ (length c.in_ok-compiled.compiled.built.code.list) h.0 c.in_ok-source.ensures
    (subst (λ (x : List ℕ). IsBuilt x slots_limit [] budget_default store_limit c.in_ok-compiled.compiled) c.deref.ensures.value c.in_ok-compiled.ensures.built) (cc) refl h.1 h.2
