use Rattle.std.proofs.Common.{refl, subst, ap, arith, length, map, []}
use Rattle.nv_ast.specs.ProgramView.{decl_tree}
use Rattle.nv_ast.specs.Grammar.{IsDecls}
use Rattle.nv_text.proofs.Texts.{tokens_few, program_one, text_of}
use Rattle.nv_text.proofs.ProgramRules.{of_tokens, failure_of, only_fault_of, no_program, no_fault}
use Rattle.nv_text.proofs.program.parse.Goals as goal

pub returns-in-Err-clause-fault : goal.returns-in-Err-clause-fault
returns-in-Err-clause-fault c = of_tokens _ _ c.in-Err.ensures.fault

pub returns-in-Err-clause-only_fault : goal.returns-in-Err-clause-only_fault
returns-in-Err-clause-only_fault c = only_fault_of _ _ (of_tokens _ _ c.in-Err.ensures.fault)

pub returns-in-Err-clause-only_program : goal.returns-in-Err-clause-only_program
returns-in-Err-clause-only_program c = no_program _ _ (of_tokens _ _ c.in-Err.ensures.fault)

pub returns-in-Err-declarations-clause-fault : goal.returns-in-Err-declarations-clause-fault
returns-in-Err-declarations-clause-fault c = failure_of _ _ _ _ _ _ c.in-Ok.ensures.ok c.as_slice.ensures.value refl c.in-Err-declarations.ensures.fails c.text_error.ensures

pub returns-in-Err-declarations-clause-only_fault : goal.returns-in-Err-declarations-clause-only_fault
returns-in-Err-declarations-clause-only_fault c =
    only_fault_of _ _ (failure_of _ _ _ _ _ _ c.in-Ok.ensures.ok c.as_slice.ensures.value refl c.in-Err-declarations.ensures.fails c.text_error.ensures)

pub returns-in-Err-declarations-clause-only_program : goal.returns-in-Err-declarations-clause-only_program
returns-in-Err-declarations-clause-only_program c =
    no_program _ _ (failure_of _ _ _ _ _ _ c.in-Ok.ensures.ok c.as_slice.ensures.value refl c.in-Err-declarations.ensures.fails c.text_error.ensures)

pub returns-clause-program : goal.returns-clause-program
returns-clause-program c = text_of _ _ _ _ c.in-Ok.ensures.ok (subst (λ z. IsDecls (map decl_tree c.in-Ok-declarations.decls.items) z []) c.as_slice.ensures.value c.in-Ok-declarations.ensures.read) refl

pub returns-clause-only_program : goal.returns-clause-only_program
returns-clause-only_program c = program_one _ _ _ _ c.in-Ok.ensures.ok (subst (λ z. IsDecls (map decl_tree c.in-Ok-declarations.decls.items) z []) c.as_slice.ensures.value c.in-Ok-declarations.ensures.read) refl

pub returns-clause-only_fault : goal.returns-clause-only_fault
returns-clause-only_fault c =
    no_fault _ _ (text_of _ _ _ (length c.args.bytes.now) c.in-Ok.ensures.ok (subst (λ z. IsDecls (map decl_tree c.in-Ok-declarations.decls.items) z []) c.as_slice.ensures.value c.in-Ok-declarations.ensures.read) refl) c.in-Ok-declarations.ensures.low

pub invariant_of-result : goal.invariant_of-result
invariant_of-result c = omega (arith, c.in-Ok-declarations.ensures.few, tokens_few c.args.bytes.now c.in-Ok.found.items c.in-Ok.ensures.ok, ap length c.as_slice.ensures.value, c.requires)
