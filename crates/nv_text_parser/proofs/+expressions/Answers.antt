use Rattle.std.proofs.Common.{◌≡◌, ◌∷◌, ◌++◌, ◌-◌, [], ap, ◌∙◌, sym, refl, arith, length, rules, max, List, ℕ, true}
use Rattle.nv_ast.specs.declared.tree.Expr.{Expr}
use Rattle.nv_ast.specs.declared.tree.Stmt.{Stmt}
use Rattle.nv_ast.specs.Height.{height}
use Rattle.nv_ast.specs.Grammar.{tail_alone, operators, empty_args, una, no_operator, post, invert, negate, number, truth, falsehood, variable, unit}
use Rattle.nv_text_parser.specs.inner.Failing.{no_memory, deep, read_none, read_next}
use Rattle.nv_text_parser.specs.inner.ExprPhrases.{begins_name}
use Rattle.nv_text_parser.proofs.Lists.{exprs_start, exprs_step, highest_one, highest_push, pattern_inside_all_one, pattern_inside_all_push, members_start, members_step, highest_named_one, highest_named_push, pattern_inside_named_one, pattern_inside_named_push, statements_start, statements_step, highest_statement_one, highest_statement_push, pattern_inside_statements_one, pattern_inside_statements_push}
use Rattle.nv_text_parser.proofs.ExprRules.{block_of, let_of, store_of, if_of, raise_of, try_of, args_of, level_of_rest, level_pred, chain_step, comparison_of, tuple_of, paren_of, fields_of, fetch_of, unpack_of, pack_of, call_of, enclosed_of}
use Rattle.nv_text_parser.proofs.Sequence.{carries_anything, then_fails, first_fails, then_reads, sign_fails, then_fills, many_fills, many_carries, many_ends, item_fails, read_many_reads, read_many_fails, sign_ahead}
use Rattle.nv_text_parser.proofs.Steps.{step_reads, step_fails, at_reads, at_fails, bind_step, bind_fails, onward_start, onward_step}
use Rattle.nv_ast.specs.ExprView.{tree_of}
use Rattle.nv_text_parser.proofs.ExprLow.{low_found, not_same, five_not_one, height_pos}
use Rattle.nv_text_parser.proofs.ExprSteps.{if_step, raise_step, try_step, operators_step, args_step, let_step, store_step, una_step, invert_step, negate_step, post_step, post_binds, call_step, bracket_step, record_step, unpack_step, pack_step, fetch_step}
use Rattle.nv_text_parser.proofs.ExprStarts.{sign_fills, key_fills, name_fills, number_fills, expr_fills, tail_fills, enclosed_fills, args_fills, patterns_fills}
use Rattle.nv_text_parser.proofs.ExprBlocks.{mixed_reads, mixed_fails, expr_mixed, body_mixed, led_fails, led_step, expr_leads, body_leads}
use Rattle.nv_text_parser.proofs.ExprExits.{read_sign, then_sign, then_key, then_name, then_number, past_sign, past_key, past_name, past_number, no_sign, no_key, no_name, no_number, before_key, sign_above, has_before, exprs_listed, exprs_before, members_listed, members_before, comma_here, no_comma, args_empty, args_stops, args_deep, unit_reads, bracket_stops, bracket_deep, number_reads, true_reads, false_reads, variable_reads, named_fails, atom_stops, if_deep, try_deep, tilde_deep, bang_deep, unpack_deep, pack_deep, fetch_deep, record_deep, statement_stops, chain_deep, comparison_deep, chain_ends, level_first_fails, level_rest_fails, level_reads, operand_fails, operand_onward, comparison_fails, comparison_reads, call_split}
use Rattle.nv_text_parser.proofs.+expressions.Goals as goal

pub expressions::more_exprs-loop-after-init : goal.expressions::more_exprs-loop-after-init
expressions::more_exprs-loop-after-init t c =
    let one : c.push.new.self.items ≡ c.args.first ∷ [] = c.in-Ok.ensures.items ∙ ap (λ (z : List Expr). z ++ c.args.first ∷ []) c.new-exprs.ensures.items in
    record {
      read = exprs_start _ _ _ one;
      items = read_none;
      measured = omega (arith, c.requires.measured, highest_one _ _ one);
      low = c.requires.low;
      inside = pattern_inside_all_one _ _ one c.requires.inside;
      shorter = omega arith;
    }

pub expressions::more_exprs-loop-after-preserved : goal.expressions::more_exprs-loop-after-preserved
expressions::more_exprs-loop-after-preserved t c =
    let m : c.max-highest.result ≡ max c.loop-after.highest c.in-Ok-expr.found.height = search rules in
    record {
      read = exprs_step _ _ _ _ _ _ _ _ _ c.loop-after.invariant.read c.in-Some.ensures c.in-Ok-expr.ensures.read c.in-Ok-push.ensures.items;
      items = read_next c.loop-after.invariant.items (then_sign 22 _ c.in-Some.ensures c.in-Ok-expr.ensures.answers);
      measured = omega (arith, m, highest_push _ _ _ c.in-Ok-push.ensures.items, c.loop-after.invariant.measured, c.in-Ok-expr.ensures.measured);
      low = omega (arith, m, c.loop-after.invariant.low, c.in-Ok-expr.ensures.low);
      inside = pattern_inside_all_push _ _ _ c.in-Ok-push.ensures.items c.in-Ok-expr.ensures.inside c.loop-after.invariant.inside;
      shorter = omega (arith, c.loop-after.invariant.shorter, c.in-Ok-expr.ensures.shorter, ap length c.in-Some.ensures);
    }

pub operands::more_members-loop-after-init : goal.operands::more_members-loop-after-init
operands::more_members-loop-after-init t c =
    let one : c.push.new.self.items ≡ (c.args.name, c.args.first) ∷ [] = c.in-Ok.ensures.items ∙ ap (λ (z : List (List ℕ × Expr)). z ++ (c.args.name, c.args.first) ∷ []) c.new-members.ensures.items in
    record {
      read = members_start _ _ _ one;
      items = read_none;
      measured = omega (arith, c.requires.measured, highest_named_one _ _ one);
      low = c.requires.low;
      inside = pattern_inside_named_one _ _ one c.requires.inside;
      shorter = omega arith;
    }

pub operands::more_members-loop-after-preserved : goal.operands::more_members-loop-after-preserved
operands::more_members-loop-after-preserved t c =
    let m : c.max-highest.result ≡ max c.loop-after.highest c.in-Ok-expr.found.height = search rules in
    record {
      read = members_step _ _ _ _ _ _ _ _ _ _ _ _ _ _ c.loop-after.invariant.read c.in-Some.ensures c.in-Ok-take_name.ensures c.in-Ok-take_sign.ensures c.in-Ok-expr.ensures.read c.in-Ok-push.ensures.items;
      items = read_next c.loop-after.invariant.items (then_sign 22 _ c.in-Some.ensures (then_name _ _ c.in-Ok-take_name.ensures (then_sign 19 _ c.in-Ok-take_sign.ensures c.in-Ok-expr.ensures.answers)));
      measured = omega (arith, m, highest_named_push _ _ _ c.in-Ok-push.ensures.items, c.loop-after.invariant.measured, c.in-Ok-expr.ensures.measured);
      low = omega (arith, m, c.loop-after.invariant.low, c.in-Ok-expr.ensures.low);
      inside = pattern_inside_named_push _ _ _ c.in-Ok-push.ensures.items c.in-Ok-expr.ensures.inside c.loop-after.invariant.inside;
      shorter = omega (arith, c.loop-after.invariant.shorter, c.in-Ok-expr.ensures.shorter, ap length c.in-Some.ensures, ap length c.in-Ok-take_name.ensures, ap length c.in-Ok-take_sign.ensures);
    }

pub expressions::more_statements-loop-alloc-init : goal.expressions::more_statements-loop-alloc-init
expressions::more_statements-loop-alloc-init t c =
    let one : c.push.new.self.items ≡ c.args.first ∷ [] = c.in-Ok.ensures.items ∙ ap (λ (z : List Stmt). z ++ c.args.first ∷ []) c.new-statements.ensures.items in
    record {
      read = statements_start _ _ _ one;
      onward = onward_start;
      measured = omega (arith, c.requires.measured, highest_statement_one _ _ one);
      low = c.requires.low;
      inside = pattern_inside_statements_one _ _ one c.requires.inside;
      shorter = omega arith;
    }

pub expressions::more_statements-loop-alloc-preserved : goal.expressions::more_statements-loop-alloc-preserved
expressions::more_statements-loop-alloc-preserved t c =
    let m : c.max-highest.result ≡ max c.loop-alloc.highest c.in-Ok-statement.found.height = search rules in
    record {
      read = statements_step _ _ _ _ _ _ _ c.loop-alloc.invariant.read c.in-Ok-statement.ensures.read c.in-Ok-push.ensures.items;
      onward = onward_step c.loop-alloc.invariant.onward (led_step (body_leads _) c.in-Ok-statement.ensures.answers) c.in-Ok-statement.ensures.answers.split;
      measured = omega (arith, m, highest_statement_push _ _ _ c.in-Ok-push.ensures.items, c.loop-alloc.invariant.measured, c.in-Ok-statement.ensures.measured);
      low = omega (arith, m, c.loop-alloc.invariant.low, c.in-Ok-statement.ensures.low);
      inside = pattern_inside_statements_push _ _ _ c.in-Ok-push.ensures.items c.in-Ok-statement.ensures.inside c.loop-alloc.invariant.inside;
      shorter = omega (arith, c.loop-alloc.invariant.shorter, c.in-Ok-statement.ensures.shorter);
    }

pub expressions::expr-returns-then-not-begins_statement-clause-read : goal.expressions::expr-returns-then-not-begins_statement-clause-read
expressions::expr-returns-then-not-begins_statement-clause-read t c = tail_alone c.in-Ok.ensures.read

pub expressions::block-returns-clause-read : goal.expressions::block-returns-clause-read
expressions::block-returns-clause-read t c =
    block_of c.in-Ok.ensures.read c.in-Ok-more_statements.ensures.read c.in-Ok-tail.ensures.read (rw c.statement_span-span.ensures at c.in-Ok-block.ensures)

pub expressions::statement-returns-clause-read : goal.expressions::statement-returns-clause-read
expressions::statement-returns-clause-read t c =
    rw c.joined.ensures (let_of _ _ _ c.in-Some.ensures c.in-Ok.ensures.read c.in-Ok-take_sign.ensures c.in-Ok-tail.ensures.read c.in-Ok-take_sign-2.ensures)

pub expressions::store-returns-clause-read : goal.expressions::store-returns-clause-read
expressions::store-returns-clause-read t c = rw c.joined.ensures (store_of _ _ _ _ _ c.in-Ok.ensures.read c.in-Ok-take_sign.ensures c.in-Ok-tail.ensures.read c.in-Ok-take_sign-2.ensures)

pub expressions::tail-returns-clause-read : goal.expressions::tail-returns-clause-read
expressions::tail-returns-clause-read t c = operators c.in-Ok.ensures.read

pub expressions::if_else-returns-clause-read : goal.expressions::if_else-returns-clause-read
expressions::if_else-returns-clause-read t c = if_of _ _ _ c.in-Ok.ensures.read c.in-Ok-expr.ensures.read c.in-Ok-take_key.ensures c.in-Ok-expr-2.ensures.read c.in-Ok-if_else.ensures

pub expressions::raise-returns-clause-read : goal.expressions::raise-returns-clause-read
expressions::raise-returns-clause-read t c =
    raise_of _ _ _ _ c.in-Ok.ensures c.in-Ok-take_sign.ensures c.in-Ok-args.ensures.read c.in-Ok-take_sign-2.ensures (rw c.joined.ensures at c.raise.ensures)

pub expressions::try_handle-returns-clause-read : goal.expressions::try_handle-returns-clause-read
expressions::try_handle-returns-clause-read t c =
    try_of _ _ _ _ _ _ _ c.in-Ok.ensures.read c.in-Ok-take_key.ensures c.in-Ok-take_name.ensures c.in-Ok-take_sign.ensures c.in-Ok-patterns.ensures.read c.in-Ok-take_sign-2.ensures
    c.in-Ok-enclosed.ensures.read (rw c.joined-span.ensures at c.in-Ok-try_handle.ensures)

pub expressions::args-returns-in-Some-clause-read : goal.expressions::args-returns-in-Some-clause-read
expressions::args-returns-in-Some-clause-read t c = rw c.new.ensures.items empty_args

pub expressions::args-returns-clause-read : goal.expressions::args-returns-clause-read
expressions::args-returns-clause-read t c = args_of c.in-Ok.ensures.read c.in-Ok-more_exprs.ensures.read

pub operands::level-returns-then-l-eq0-clause-read : goal.operands::level-returns-then-l-eq0-clause-read
operands::level-returns-then-l-eq0-clause-read t c = rw c.if-l-eq0.true (una c.in-Ok.ensures.read)

pub operands::level-returns-then-l-eq2-clause-read : goal.operands::level-returns-then-l-eq2-clause-read
operands::level-returns-then-l-eq2-clause-read t c =
    let e : c.args.l - 1 ≡ 1 = omega (arith, c.if-l-eq2.true) in
    level_of_rest c.args.l 1 (sym c.if-l-eq2.true) (rw e at c.in-Ok-level.ensures.read) c.in-Ok-shifts.ensures.read

pub operands::level-returns-then-l-eq6-clause-read : goal.operands::level-returns-then-l-eq6-clause-read
operands::level-returns-then-l-eq6-clause-read t c =
    let e : c.args.l - 1 ≡ 5 = omega (arith, c.if-l-eq6.true) in
    level_of_rest c.args.l 5 (sym c.if-l-eq6.true) (rw e at c.in-Ok-level.ensures.read) c.in-Ok-comparison.ensures.read

pub operands::level-returns-clause-read : goal.operands::level-returns-clause-read
operands::level-returns-clause-read t c = level_of_rest _ _ (level_pred _ c.if-l-eq0.false) c.in-Ok-level.ensures.read c.in-Ok-chain.ensures.read

pub operands::chain-loop-op-init : goal.operands::chain-loop-op-init
operands::chain-loop-op-init t c = record {
  read = λ e k r. r;
  onward = onward_start;
  measured = c.requires.measured;
  low = c.requires.low;
  inside = c.requires.inside;
  shorter = omega arith;
}

pub operands::chain-loop-op-preserved : goal.operands::chain-loop-op-preserved
operands::chain-loop-op-preserved t c =
    let m : c.max-highest.result ≡ max c.loop-op.highest c.in-Ok.found.height = search rules in
    record {
      read = λ e k r. c.loop-op.invariant.read e k (chain_step _ c.requires.many c.in-Some.ensures c.in-Ok.ensures.read c.in-Ok-binary.ensures r);
      onward = operand_onward _ _ _ _ c.requires.many (omega arith) (low_found c.loop-op.invariant.measured c.loop-op.invariant.low c.loop-op.invariant.inside true) (not_same c.loop-op.invariant.measured c.if-highest-room.false) c.in-Some.ensures c.in-Ok.ensures.read c.in-Ok.ensures.answers c.in-Ok-binary.ensures c.loop-op.invariant.onward;
      measured = omega (arith, m, ap height c.in-Ok-binary.ensures, c.loop-op.invariant.measured, c.in-Ok.ensures.measured);
      low = omega (arith, m, c.loop-op.invariant.low, c.in-Ok.ensures.low, c.if-highest-room.false);
      inside = rw c.in-Ok-binary.ensures (omega (arith, c.loop-op.invariant.inside, c.in-Ok.ensures.inside));
      shorter = omega (arith, c.loop-op.invariant.shorter, c.in-Ok.ensures.shorter, ap length c.in-Some.ensures.split);
    }

pub operands::comparison-returns-in_default-clause-read : goal.operands::comparison-returns-in_default-clause-read
operands::comparison-returns-in_default-clause-read t c = no_operator

pub operands::comparison-returns-clause-read : goal.operands::comparison-returns-clause-read
operands::comparison-returns-clause-read t c = comparison_of c.in-Some.ensures c.in-Ok.ensures.read c.in-Ok-binary.ensures

pub operands::una-returns-clause-read : goal.operands::una-returns-clause-read
operands::una-returns-clause-read t c = post c.in-Ok.ensures.read c.in-Ok-dots.ensures.read

pub operands::invert-returns-clause-read : goal.operands::invert-returns-clause-read
operands::invert-returns-clause-read t c = rw c.in-Ok-invert.ensures (invert c.in-Ok.ensures.read)

pub operands::negate-returns-clause-read : goal.operands::negate-returns-clause-read
operands::negate-returns-clause-read t c = rw c.in-Ok-negate.ensures (negate c.in-Ok.ensures.read)

pub operands::atom-returns-in-Some-clause-read : goal.operands::atom-returns-in-Some-clause-read
operands::atom-returns-in-Some-clause-read t c = rw (c.number.ensures, c.in-Some.ensures) number

pub operands::atom-returns-in-Some-key_here-clause-read : goal.operands::atom-returns-in-Some-key_here-clause-read
operands::atom-returns-in-Some-key_here-clause-read t c = rw (c.truth.ensures, c.in-Some-key_here.ensures) truth

pub operands::atom-returns-in-Some-key_here-2-clause-read : goal.operands::atom-returns-in-Some-key_here-2-clause-read
operands::atom-returns-in-Some-key_here-2-clause-read t c = rw (c.truth-in-Some-key_here-2.ensures, c.in-Some-key_here-2.ensures) falsehood

pub operands::unpack-returns-clause-read : goal.operands::unpack-returns-clause-read
operands::unpack-returns-clause-read t c = unpack_of _ _ c.in-Ok.ensures.read c.in-Ok-enclosed.ensures.read (rw c.joined.ensures at c.in-Ok-unpack.ensures)

pub operands::pack-returns-clause-read : goal.operands::pack-returns-clause-read
operands::pack-returns-clause-read t c = pack_of _ _ c.in-Ok.ensures.read c.in-Ok-enclosed.ensures.read (rw c.joined.ensures at c.in-Ok-pack.ensures)

pub operands::fetch-returns-clause-read : goal.operands::fetch-returns-clause-read
operands::fetch-returns-clause-read t c = fetch_of _ _ _ _ _ _ c.in-Ok.ensures c.in-Ok-take_number.ensures c.in-Ok-take_sign.ensures c.in-Ok-enclosed.ensures.read (rw c.joined.ensures at c.in-Ok-fetch.ensures)

pub operands::named-returns-in_default-clause-read : goal.operands::named-returns-in_default-clause-read
operands::named-returns-in_default-clause-read t c = rw (c.variable.ensures, c.in-Ok.ensures) variable

pub operands::named-returns-clause-read : goal.operands::named-returns-clause-read
operands::named-returns-clause-read t c = call_of _ _ _ c.in-Ok.ensures c.in-Some.ensures c.in-Ok-args.ensures.read c.in-Ok-take_sign.ensures (rw c.joined.ensures at c.call.ensures)

pub operands::bracket-returns-in-Some-clause-read : goal.operands::bracket-returns-in-Some-clause-read
operands::bracket-returns-in-Some-clause-read t c = rw (c.tuple.ensures, c.joined.ensures, c.new.ensures.items, c.in-Some.ensures) unit

pub operands::bracket-returns-in-Some-sign_here-clause-read : goal.operands::bracket-returns-in-Some-sign_here-clause-read
operands::bracket-returns-in-Some-sign_here-clause-read t c =
    tuple_of _ _ _ c.in-Ok.ensures.read c.in-Some-sign_here.ensures c.in-Ok-more_exprs.ensures.read c.in-Ok-take_sign.ensures (rw c.joined-in-Some-sign_here.ensures at c.tuple-in-Some-sign_here.ensures)

pub operands::bracket-returns-clause-read : goal.operands::bracket-returns-clause-read
operands::bracket-returns-clause-read t c = paren_of _ _ c.in-Ok.ensures.read c.in-Ok-take_sign-2.ensures (rw c.joined-2.ensures at c.in-Ok-paren.ensures)

pub operands::record_text-returns-clause-read : goal.operands::record_text-returns-clause-read
operands::record_text-returns-clause-read t c =
    fields_of _ _ _ _ c.in-Ok.ensures c.in-Ok-take_sign.ensures c.in-Ok-expr.ensures.read c.in-Ok-more_members.ensures.read c.in-Ok-take_sign-2.ensures (rw c.joined.ensures at c.fields.ensures)

pub operands::chain-returns-clause-read : goal.operands::chain-returns-clause-read
operands::chain-returns-clause-read t c = c.loop-op.invariant.read _ _ no_operator

pub expressions::if_else-returns-in-Err-clause-answers : goal.expressions::if_else-returns-in-Err-clause-answers
expressions::if_else-returns-in-Err-clause-answers t c = step_fails (if_step _ _ _ (omega arith)) _ refl (first_fails carries_anything (then_fills (expr_fills _ (omega arith)) (then_fills (key_fills 6 _) (expr_fills _ (omega arith)))) c.in-Err.ensures.answers)

pub expressions::if_else-returns-in-Err-expr-clause-answers : goal.expressions::if_else-returns-in-Err-expr-clause-answers
expressions::if_else-returns-in-Err-expr-clause-answers t c = step_fails (if_step _ _ _ (omega arith)) _ refl (then_fails carries_anything c.in-Ok.ensures.answers (first_fails (before_key 6 9 (omega arith)) (then_fills (key_fills 6 _) (expr_fills _ (omega arith))) c.in-Err-expr.ensures.answers))

pub expressions::if_else-returns-in-Err-take_key-clause-answers : goal.expressions::if_else-returns-in-Err-take_key-clause-answers
expressions::if_else-returns-in-Err-take_key-clause-answers t c = step_fails (if_step _ _ _ (omega arith)) _ refl (then_fails carries_anything c.in-Ok.ensures.answers (then_fails (before_key 6 9 (omega arith)) c.in-Ok-expr.ensures.answers (no_key 6 _ (expr_fills _ (omega arith)) c.in-Err-take_key.ensures)))

pub expressions::if_else-returns-in-Err-expr-2-clause-answers : goal.expressions::if_else-returns-in-Err-expr-2-clause-answers
expressions::if_else-returns-in-Err-expr-2-clause-answers t c = step_fails (if_step _ _ _ (omega arith)) _ refl (then_fails carries_anything c.in-Ok.ensures.answers (then_fails (before_key 6 9 (omega arith)) c.in-Ok-expr.ensures.answers (past_key 6 _ c.in-Ok-take_key.ensures c.in-Err-expr-2.ensures.answers)))

pub expressions::if_else-returns-clause-answers : goal.expressions::if_else-returns-clause-answers
expressions::if_else-returns-clause-answers t c = step_reads (if_step _ _ _ (omega arith)) _ refl (then_reads carries_anything c.in-Ok.ensures.answers (then_reads (before_key 6 9 (omega arith)) c.in-Ok-expr.ensures.answers (then_key 6 _ c.in-Ok-take_key.ensures c.in-Ok-expr-2.ensures.answers)))

pub expressions::raise-returns-in-Err-clause-answers : goal.expressions::raise-returns-in-Err-clause-answers
expressions::raise-returns-in-Err-clause-answers t c = step_fails (raise_step _ _ _ (omega arith)) _ refl (no_name _ (then_fills (sign_fills 28 _) (then_fills (args_fills _) (sign_fills 29 _))) c.in-Err.ensures)

pub expressions::raise-returns-in-Err-take_sign-clause-answers : goal.expressions::raise-returns-in-Err-take_sign-clause-answers
expressions::raise-returns-in-Err-take_sign-clause-answers t c = step_fails (raise_step _ _ _ (omega arith)) _ refl (past_name _ _ c.in-Ok.ensures (no_sign 28 _ (then_fills (args_fills _) (sign_fills 29 _)) c.in-Err-take_sign.ensures))

pub expressions::raise-returns-in-Err-args-clause-answers : goal.expressions::raise-returns-in-Err-args-clause-answers
expressions::raise-returns-in-Err-args-clause-answers t c = step_fails (raise_step _ _ _ (omega arith)) _ refl (past_name _ _ c.in-Ok.ensures (past_sign 28 _ c.in-Ok-take_sign.ensures (first_fails (sign_ahead 29) (sign_fills 29 _) c.in-Err-args.ensures.answers)))

pub expressions::raise-returns-in-Err-take_sign-2-clause-answers : goal.expressions::raise-returns-in-Err-take_sign-2-clause-answers
expressions::raise-returns-in-Err-take_sign-2-clause-answers t c = step_fails (raise_step _ _ _ (omega arith)) _ refl (past_name _ _ c.in-Ok.ensures (past_sign 28 _ c.in-Ok-take_sign.ensures (then_fails (sign_ahead 29) c.in-Ok-args.ensures.answers (sign_fails 29 _ _ _ c.in-Err-take_sign-2.ensures))))

pub expressions::raise-returns-clause-answers : goal.expressions::raise-returns-clause-answers
expressions::raise-returns-clause-answers t c = step_reads (raise_step _ _ _ (omega arith)) _ refl (then_name _ _ c.in-Ok.ensures (then_sign 28 _ c.in-Ok-take_sign.ensures (then_reads (sign_ahead 29) c.in-Ok-args.ensures.answers (read_sign 29 _ _ c.in-Ok-take_sign-2.ensures))))

pub expressions::try_handle-returns-in-Err-clause-answers : goal.expressions::try_handle-returns-in-Err-clause-answers
expressions::try_handle-returns-in-Err-clause-answers t c = step_fails (try_step _ _ _ (omega arith)) _ refl (first_fails carries_anything (then_fills (key_fills 11 _) (then_fills (name_fills _) (then_fills (sign_fills 28 _) (then_fills (patterns_fills _) (then_fills (sign_fills 29 _) (enclosed_fills 26 27 _ (omega arith))))))) c.in-Err.ensures.answers)

pub expressions::try_handle-returns-in-Err-take_key-clause-answers : goal.expressions::try_handle-returns-in-Err-take_key-clause-answers
expressions::try_handle-returns-in-Err-take_key-clause-answers t c = step_fails (try_step _ _ _ (omega arith)) _ refl (then_fails carries_anything c.in-Ok.ensures.answers (no_key 11 _ (then_fills (name_fills _) (then_fills (sign_fills 28 _) (then_fills (patterns_fills _) (then_fills (sign_fills 29 _) (enclosed_fills 26 27 _ (omega arith)))))) c.in-Err-take_key.ensures))

pub expressions::try_handle-returns-in-Err-take_name-clause-answers : goal.expressions::try_handle-returns-in-Err-take_name-clause-answers
expressions::try_handle-returns-in-Err-take_name-clause-answers t c = step_fails (try_step _ _ _ (omega arith)) _ refl (then_fails carries_anything c.in-Ok.ensures.answers (past_key 11 _ c.in-Ok-take_key.ensures (no_name _ (then_fills (sign_fills 28 _) (then_fills (patterns_fills _) (then_fills (sign_fills 29 _) (enclosed_fills 26 27 _ (omega arith))))) c.in-Err-take_name.ensures)))

pub expressions::try_handle-returns-in-Err-take_sign-clause-answers : goal.expressions::try_handle-returns-in-Err-take_sign-clause-answers
expressions::try_handle-returns-in-Err-take_sign-clause-answers t c = step_fails (try_step _ _ _ (omega arith)) _ refl (then_fails carries_anything c.in-Ok.ensures.answers (past_key 11 _ c.in-Ok-take_key.ensures (past_name _ _ c.in-Ok-take_name.ensures (no_sign 28 _ (then_fills (patterns_fills _) (then_fills (sign_fills 29 _) (enclosed_fills 26 27 _ (omega arith)))) c.in-Err-take_sign.ensures))))

pub expressions::try_handle-returns-in-Err-patterns-clause-answers : goal.expressions::try_handle-returns-in-Err-patterns-clause-answers
expressions::try_handle-returns-in-Err-patterns-clause-answers t c = step_fails (try_step _ _ _ (omega arith)) _ refl (then_fails carries_anything c.in-Ok.ensures.answers (past_key 11 _ c.in-Ok-take_key.ensures (past_name _ _ c.in-Ok-take_name.ensures (past_sign 28 _ c.in-Ok-take_sign.ensures (first_fails has_before (then_fills (sign_fills 29 _) (enclosed_fills 26 27 _ (omega arith))) (at_fails c.in-Err-patterns.ensures.answers))))))

pub expressions::try_handle-returns-in-Err-take_sign-2-clause-answers : goal.expressions::try_handle-returns-in-Err-take_sign-2-clause-answers
expressions::try_handle-returns-in-Err-take_sign-2-clause-answers t c = step_fails (try_step _ _ _ (omega arith)) _ refl (then_fails carries_anything c.in-Ok.ensures.answers (past_key 11 _ c.in-Ok-take_key.ensures (past_name _ _ c.in-Ok-take_name.ensures (past_sign 28 _ c.in-Ok-take_sign.ensures (then_fails has_before (at_reads c.in-Ok-patterns.ensures.answers) (no_sign 29 _ (enclosed_fills 26 27 _ (omega arith)) c.in-Err-take_sign-2.ensures))))))

pub expressions::try_handle-returns-in-Err-enclosed-clause-answers : goal.expressions::try_handle-returns-in-Err-enclosed-clause-answers
expressions::try_handle-returns-in-Err-enclosed-clause-answers t c = step_fails (try_step _ _ _ (omega arith)) _ refl (then_fails carries_anything c.in-Ok.ensures.answers (past_key 11 _ c.in-Ok-take_key.ensures (past_name _ _ c.in-Ok-take_name.ensures (past_sign 28 _ c.in-Ok-take_sign.ensures (then_fails has_before (at_reads c.in-Ok-patterns.ensures.answers) (past_sign 29 _ c.in-Ok-take_sign-2.ensures c.in-Err-enclosed.ensures.answers))))))

pub expressions::try_handle-returns-clause-answers : goal.expressions::try_handle-returns-clause-answers
expressions::try_handle-returns-clause-answers t c = step_reads (try_step _ _ _ (omega arith)) _ refl (then_reads carries_anything c.in-Ok.ensures.answers (then_key 11 _ c.in-Ok-take_key.ensures (then_name _ _ c.in-Ok-take_name.ensures (then_sign 28 _ c.in-Ok-take_sign.ensures (then_reads has_before (at_reads c.in-Ok-patterns.ensures.answers) (then_sign 29 _ c.in-Ok-take_sign-2.ensures c.in-Ok-enclosed.ensures.answers))))))

pub operands::unpack-returns-in-Err-clause-answers : goal.operands::unpack-returns-in-Err-clause-answers
operands::unpack-returns-in-Err-clause-answers t c = step_fails (unpack_step _ _ _ (omega arith)) _ refl (first_fails carries_anything (enclosed_fills 24 25 _ (omega arith)) (c.in-Err.ensures.answers _))

pub operands::unpack-returns-in-Err-enclosed-clause-answers : goal.operands::unpack-returns-in-Err-enclosed-clause-answers
operands::unpack-returns-in-Err-enclosed-clause-answers t c = step_fails (unpack_step _ _ _ (omega arith)) _ refl (then_fails carries_anything (c.in-Ok.ensures.answers _) c.in-Err-enclosed.ensures.answers)

pub operands::unpack-returns-clause-answers : goal.operands::unpack-returns-clause-answers
operands::unpack-returns-clause-answers t c = step_reads (unpack_step _ _ _ (omega arith)) _ refl (then_reads carries_anything (c.in-Ok.ensures.answers _) c.in-Ok-enclosed.ensures.answers)

pub operands::pack-returns-in-Err-clause-answers : goal.operands::pack-returns-in-Err-clause-answers
operands::pack-returns-in-Err-clause-answers t c = step_fails (pack_step _ _ _ (omega arith)) _ refl (first_fails carries_anything (enclosed_fills 24 25 _ (omega arith)) (c.in-Err.ensures.answers _))

pub operands::pack-returns-in-Err-enclosed-clause-answers : goal.operands::pack-returns-in-Err-enclosed-clause-answers
operands::pack-returns-in-Err-enclosed-clause-answers t c = step_fails (pack_step _ _ _ (omega arith)) _ refl (then_fails carries_anything (c.in-Ok.ensures.answers _) c.in-Err-enclosed.ensures.answers)

pub operands::pack-returns-clause-answers : goal.operands::pack-returns-clause-answers
operands::pack-returns-clause-answers t c = step_reads (pack_step _ _ _ (omega arith)) _ refl (then_reads carries_anything (c.in-Ok.ensures.answers _) c.in-Ok-enclosed.ensures.answers)

pub operands::fetch-returns-in-Err-clause-answers : goal.operands::fetch-returns-in-Err-clause-answers
operands::fetch-returns-in-Err-clause-answers t c = step_fails (fetch_step _ _ _ _ (omega arith)) _ refl (no_sign 28 _ (then_fills (number_fills _) (then_fills (sign_fills 29 _) (enclosed_fills 24 25 _ (omega arith)))) c.in-Err.ensures)

pub operands::fetch-returns-in-Err-take_number-clause-answers : goal.operands::fetch-returns-in-Err-take_number-clause-answers
operands::fetch-returns-in-Err-take_number-clause-answers t c = step_fails (fetch_step _ _ _ _ (omega arith)) _ refl (past_sign 28 _ c.in-Ok.ensures (no_number _ (then_fills (sign_fills 29 _) (enclosed_fills 24 25 _ (omega arith))) c.in-Err-take_number.ensures))

pub operands::fetch-returns-in-Err-take_sign-clause-answers : goal.operands::fetch-returns-in-Err-take_sign-clause-answers
operands::fetch-returns-in-Err-take_sign-clause-answers t c = step_fails (fetch_step _ _ _ _ (omega arith)) _ refl (past_sign 28 _ c.in-Ok.ensures (past_number _ _ c.in-Ok-take_number.ensures (no_sign 29 _ (enclosed_fills 24 25 _ (omega arith)) c.in-Err-take_sign.ensures)))

pub operands::fetch-returns-in-Err-enclosed-clause-answers : goal.operands::fetch-returns-in-Err-enclosed-clause-answers
operands::fetch-returns-in-Err-enclosed-clause-answers t c = step_fails (fetch_step _ _ _ _ (omega arith)) _ refl (past_sign 28 _ c.in-Ok.ensures (past_number _ _ c.in-Ok-take_number.ensures (past_sign 29 _ c.in-Ok-take_sign.ensures c.in-Err-enclosed.ensures.answers)))

pub operands::fetch-returns-clause-answers : goal.operands::fetch-returns-clause-answers
operands::fetch-returns-clause-answers t c = step_reads (fetch_step _ _ _ _ (omega arith)) _ refl (then_sign 28 _ c.in-Ok.ensures (then_number _ _ c.in-Ok-take_number.ensures (then_sign 29 _ c.in-Ok-take_sign.ensures c.in-Ok-enclosed.ensures.answers)))

pub expressions::store-returns-in-Err-clause-answers : goal.expressions::store-returns-in-Err-clause-answers
expressions::store-returns-in-Err-clause-answers t c = step_fails (store_step _ _ _ _ (omega arith)) _ refl (first_fails carries_anything (then_fills (sign_fills 18 _) (then_fills (tail_fills _ (omega arith)) (sign_fills 20 _))) c.in-Err.ensures.answers)

pub expressions::store-returns-in-Err-take_sign-clause-answers : goal.expressions::store-returns-in-Err-take_sign-clause-answers
expressions::store-returns-in-Err-take_sign-clause-answers t c = step_fails (store_step _ _ _ _ (omega arith)) _ refl (then_fails carries_anything c.in-Ok.ensures.answers (no_sign 18 _ (then_fills (tail_fills _ (omega arith)) (sign_fills 20 _)) c.in-Err-take_sign.ensures))

pub expressions::store-returns-in-Err-tail-clause-answers : goal.expressions::store-returns-in-Err-tail-clause-answers
expressions::store-returns-in-Err-tail-clause-answers t c = step_fails (store_step _ _ _ _ (omega arith)) _ refl (then_fails carries_anything c.in-Ok.ensures.answers (past_sign 18 _ c.in-Ok-take_sign.ensures (first_fails (sign_above 20 9 (omega arith)) (sign_fills 20 _) c.in-Err-tail.ensures.answers)))

pub expressions::store-returns-in-Err-take_sign-2-clause-answers : goal.expressions::store-returns-in-Err-take_sign-2-clause-answers
expressions::store-returns-in-Err-take_sign-2-clause-answers t c = step_fails (store_step _ _ _ _ (omega arith)) _ refl (then_fails carries_anything c.in-Ok.ensures.answers (past_sign 18 _ c.in-Ok-take_sign.ensures (then_fails (sign_above 20 9 (omega arith)) c.in-Ok-tail.ensures.answers (sign_fails 20 _ _ _ c.in-Err-take_sign-2.ensures))))

pub expressions::store-returns-clause-answers : goal.expressions::store-returns-clause-answers
expressions::store-returns-clause-answers t c = step_reads (store_step _ _ _ _ (omega arith)) _ refl (then_reads carries_anything c.in-Ok.ensures.answers (then_sign 18 _ c.in-Ok-take_sign.ensures (then_reads (sign_above 20 9 (omega arith)) c.in-Ok-tail.ensures.answers (read_sign 20 _ _ c.in-Ok-take_sign-2.ensures))))

pub expressions::statement-returns-in-Err-clause-answers : goal.expressions::statement-returns-in-Err-clause-answers
expressions::statement-returns-in-Err-clause-answers t c = step_fails (let_step _ _ _ (omega arith)) _ c.in-Some.ensures (first_fails carries_anything (then_fills (sign_fills 19 _) (then_fills (tail_fills _ (omega arith)) (sign_fills 20 _))) (at_fails c.in-Err.ensures.answers))

pub expressions::statement-returns-in-Err-take_sign-clause-answers : goal.expressions::statement-returns-in-Err-take_sign-clause-answers
expressions::statement-returns-in-Err-take_sign-clause-answers t c = step_fails (let_step _ _ _ (omega arith)) _ c.in-Some.ensures (then_fails carries_anything (at_reads c.in-Ok.ensures.answers) (no_sign 19 _ (then_fills (tail_fills _ (omega arith)) (sign_fills 20 _)) c.in-Err-take_sign.ensures))

pub expressions::statement-returns-in-Err-tail-clause-answers : goal.expressions::statement-returns-in-Err-tail-clause-answers
expressions::statement-returns-in-Err-tail-clause-answers t c = step_fails (let_step _ _ _ (omega arith)) _ c.in-Some.ensures (then_fails carries_anything (at_reads c.in-Ok.ensures.answers) (past_sign 19 _ c.in-Ok-take_sign.ensures (first_fails (sign_above 20 9 (omega arith)) (sign_fills 20 _) c.in-Err-tail.ensures.answers)))

pub expressions::statement-returns-in-Err-take_sign-2-clause-answers : goal.expressions::statement-returns-in-Err-take_sign-2-clause-answers
expressions::statement-returns-in-Err-take_sign-2-clause-answers t c = step_fails (let_step _ _ _ (omega arith)) _ c.in-Some.ensures (then_fails carries_anything (at_reads c.in-Ok.ensures.answers) (past_sign 19 _ c.in-Ok-take_sign.ensures (then_fails (sign_above 20 9 (omega arith)) c.in-Ok-tail.ensures.answers (sign_fails 20 _ _ _ c.in-Err-take_sign-2.ensures))))

pub expressions::statement-returns-clause-answers : goal.expressions::statement-returns-clause-answers
expressions::statement-returns-clause-answers t c = step_reads (let_step _ _ _ (omega arith)) _ c.in-Some.ensures (then_reads carries_anything (at_reads c.in-Ok.ensures.answers) (then_sign 19 _ c.in-Ok-take_sign.ensures (then_reads (sign_above 20 9 (omega arith)) c.in-Ok-tail.ensures.answers (read_sign 20 _ _ c.in-Ok-take_sign-2.ensures))))

pub operands::record_text-returns-in-Err-clause-answers : goal.operands::record_text-returns-in-Err-clause-answers
operands::record_text-returns-in-Err-clause-answers t c = step_fails (record_step _ _ _ (omega arith)) _ refl (no_name _ (then_fills (sign_fills 19 _) (then_fills (expr_fills _ (omega arith)) (then_fills (many_fills _) (sign_fills 27 _)))) c.in-Err.ensures)

pub operands::record_text-returns-in-Err-take_sign-clause-answers : goal.operands::record_text-returns-in-Err-take_sign-clause-answers
operands::record_text-returns-in-Err-take_sign-clause-answers t c = step_fails (record_step _ _ _ (omega arith)) _ refl (past_name _ _ c.in-Ok.ensures (no_sign 19 _ (then_fills (expr_fills _ (omega arith)) (then_fills (many_fills _) (sign_fills 27 _))) c.in-Err-take_sign.ensures))

pub operands::record_text-returns-in-Err-expr-clause-answers : goal.operands::record_text-returns-in-Err-expr-clause-answers
operands::record_text-returns-in-Err-expr-clause-answers t c = step_fails (record_step _ _ _ (omega arith)) _ refl (past_name _ _ c.in-Ok.ensures (past_sign 19 _ c.in-Ok-take_sign.ensures (first_fails (members_before 27 (omega arith)) (then_fills (many_fills _) (sign_fills 27 _)) c.in-Err-expr.ensures.answers)))

pub operands::record_text-returns-in-Err-more_members-clause-answers : goal.operands::record_text-returns-in-Err-more_members-clause-answers
operands::record_text-returns-in-Err-more_members-clause-answers t c = step_fails (record_step _ _ _ (omega arith)) _ refl (past_name _ _ c.in-Ok.ensures (past_sign 19 _ c.in-Ok-take_sign.ensures (then_fails (members_before 27 (omega arith)) c.in-Ok-expr.ensures.answers (first_fails (sign_above 27 10 (omega arith)) (sign_fills 27 _) c.in-Err-more_members.ensures.answers))))

pub operands::record_text-returns-in-Err-take_sign-2-clause-answers : goal.operands::record_text-returns-in-Err-take_sign-2-clause-answers
operands::record_text-returns-in-Err-take_sign-2-clause-answers t c = step_fails (record_step _ _ _ (omega arith)) _ refl (past_name _ _ c.in-Ok.ensures (past_sign 19 _ c.in-Ok-take_sign.ensures (then_fails (members_before 27 (omega arith)) c.in-Ok-expr.ensures.answers (then_fails (sign_above 27 10 (omega arith)) c.in-Ok-more_members.ensures.answers (sign_fails 27 _ _ _ c.in-Err-take_sign-2.ensures)))))

pub operands::record_text-returns-clause-answers : goal.operands::record_text-returns-clause-answers
operands::record_text-returns-clause-answers t c = step_reads (record_step _ _ _ (omega arith)) _ refl (then_name _ _ c.in-Ok.ensures (then_sign 19 _ c.in-Ok-take_sign.ensures (then_reads (members_before 27 (omega arith)) c.in-Ok-expr.ensures.answers (then_reads (sign_above 27 10 (omega arith)) c.in-Ok-more_members.ensures.answers (read_sign 27 _ _ c.in-Ok-take_sign-2.ensures)))))

pub expressions::enclosed-returns-in-Err-clause-answers : goal.expressions::enclosed-returns-in-Err-clause-answers
expressions::enclosed-returns-in-Err-clause-answers t c = no_sign c.args.opening _ (then_fills (expr_fills _ (omega arith)) (sign_fills c.args.closing _)) c.in-Err.ensures

pub expressions::enclosed-returns-in-Err-expr-clause-answers : goal.expressions::enclosed-returns-in-Err-expr-clause-answers
expressions::enclosed-returns-in-Err-expr-clause-answers t c = past_sign c.args.opening _ c.in-Ok.ensures (first_fails (sign_above c.args.closing 9 c.requires.closes) (sign_fills c.args.closing _) c.in-Err-expr.ensures.answers)

pub expressions::enclosed-returns-in-Err-take_sign-clause-answers : goal.expressions::enclosed-returns-in-Err-take_sign-clause-answers
expressions::enclosed-returns-in-Err-take_sign-clause-answers t c = past_sign c.args.opening _ c.in-Ok.ensures (then_fails (sign_above c.args.closing 9 c.requires.closes) c.in-Ok-expr.ensures.answers (sign_fails c.args.closing _ _ _ c.in-Err-take_sign.ensures))

pub expressions::enclosed-returns-clause-answers : goal.expressions::enclosed-returns-clause-answers
expressions::enclosed-returns-clause-answers t c = then_sign c.args.opening _ c.in-Ok.ensures (then_reads (sign_above c.args.closing 9 c.requires.closes) c.in-Ok-expr.ensures.answers (read_sign c.args.closing _ _ c.in-Ok-take_sign.ensures))

pub expressions::enclosed-returns-clause-read : goal.expressions::enclosed-returns-clause-read
expressions::enclosed-returns-clause-read t c = enclosed_of _ _ c.in-Ok.ensures c.in-Ok-expr.ensures.read c.in-Ok-take_sign.ensures

-- ---- expressions and statements

pub expressions::expr-returns-in-Err-clause-answers : goal.expressions::expr-returns-in-Err-clause-answers
expressions::expr-returns-in-Err-clause-answers t c = mixed_fails (expr_mixed _) c.if-not-begins_statement.ensures c.in-Err.ensures.answers

pub expressions::expr-returns-then-not-begins_statement-clause-answers : goal.expressions::expr-returns-then-not-begins_statement-clause-answers
expressions::expr-returns-then-not-begins_statement-clause-answers t c = mixed_reads (expr_mixed _) c.if-not-begins_statement.ensures c.in-Ok.ensures.answers

pub expressions::expr-returns-then-room-lt3-clause-answers : goal.expressions::expr-returns-then-room-lt3-clause-answers
expressions::expr-returns-then-room-lt3-clause-answers t c = deep c.too_high.ensures

pub expressions::block-returns-in-Err-clause-answers : goal.expressions::block-returns-in-Err-clause-answers
expressions::block-returns-in-Err-clause-answers t c = led_fails (expr_leads _ (omega arith)) (omega arith) c.requires.starts c.in-Err.ensures.answers

pub expressions::block-returns-in-Err-more_statements-clause-answers : goal.expressions::block-returns-in-Err-more_statements-clause-answers
expressions::block-returns-in-Err-more_statements-clause-answers t c = step_fails (led_step (expr_leads _ (omega arith)) c.in-Ok.ensures.answers) _ c.in-Ok.ensures.answers.split c.in-Err-more_statements.ensures.answers

pub expressions::block-returns-in-Err-tail-clause-answers : goal.expressions::block-returns-in-Err-tail-clause-answers
expressions::block-returns-in-Err-tail-clause-answers t c =
    step_fails (led_step (expr_leads _ (omega arith)) c.in-Ok.ensures.answers) _ c.in-Ok.ensures.answers.split
    (c.in-Ok-more_statements.ensures.answers.fails _ (mixed_fails (body_mixed _) c.in-Ok-more_statements.ensures.stopped c.in-Err-tail.ensures.answers))

pub expressions::block-returns-clause-answers : goal.expressions::block-returns-clause-answers
expressions::block-returns-clause-answers t c =
    step_reads (led_step (expr_leads _ (omega arith)) c.in-Ok.ensures.answers) _ c.in-Ok.ensures.answers.split
    (c.in-Ok-more_statements.ensures.answers.reads _ (mixed_reads (body_mixed _) c.in-Ok-more_statements.ensures.stopped c.in-Ok-tail.ensures.answers))

pub expressions::more_statements-returns-in-Err-statement-clause-answers : goal.expressions::more_statements-returns-in-Err-statement-clause-answers
expressions::more_statements-returns-in-Err-statement-clause-answers t c = c.loop-alloc.invariant.onward.fails _ (led_fails (body_leads _) c.requires.room c.loop-alloc-test.ensures c.in-Err-statement.ensures.answers)

pub expressions::more_statements-returns-clause-answers : goal.expressions::more_statements-returns-clause-answers
expressions::more_statements-returns-clause-answers t c = c.loop-alloc.invariant.onward

pub expressions::more_statements-returns-clause-stopped : goal.expressions::more_statements-returns-clause-stopped
expressions::more_statements-returns-clause-stopped t c = c.loop-alloc-test.ensures

-- ---- tails

pub expressions::tail-returns-in-Err-clause-answers : goal.expressions::tail-returns-in-Err-clause-answers
expressions::tail-returns-in-Err-clause-answers t c = step_fails (operators_step _ _ c.in_default.ensures c.in_default-key_here.ensures c.in_default-key_here-2.ensures) _ refl c.in-Err.ensures.answers

pub expressions::tail-returns-clause-answers : goal.expressions::tail-returns-clause-answers
expressions::tail-returns-clause-answers t c = step_reads (operators_step _ _ c.in_default.ensures c.in_default-key_here.ensures c.in_default-key_here-2.ensures) _ refl c.in-Ok.ensures.answers

pub expressions::tail-returns-then-room-eq1-clause-answers : goal.expressions::tail-returns-then-room-eq1-clause-answers
expressions::tail-returns-then-room-eq1-clause-answers t c = if_deep _ c.if-room-eq1.true c.in-Some.ensures refl

pub expressions::tail-returns-in-Some-clause-answers : goal.expressions::tail-returns-in-Some-clause-answers
expressions::tail-returns-in-Some-clause-answers t c = rw c.in-Some.ensures c.if_else.ensures.answers

pub expressions::tail-returns-in-Some-key_here-clause-answers : goal.expressions::tail-returns-in-Some-key_here-clause-answers
expressions::tail-returns-in-Some-key_here-clause-answers t c = rw c.in-Some-key_here.ensures c.raise.ensures.answers

pub expressions::tail-returns-then-room-eq1-2-clause-answers : goal.expressions::tail-returns-then-room-eq1-2-clause-answers
expressions::tail-returns-then-room-eq1-2-clause-answers t c = try_deep _ c.if-room-eq1-2.true c.in-Some-key_here-2.ensures refl

pub expressions::tail-returns-in-Some-key_here-2-clause-answers : goal.expressions::tail-returns-in-Some-key_here-2-clause-answers
expressions::tail-returns-in-Some-key_here-2-clause-answers t c = rw c.in-Some-key_here-2.ensures c.try_handle.ensures.answers

-- ---- lists

pub expressions::args-returns-in-Some-clause-answers : goal.expressions::args-returns-in-Some-clause-answers
expressions::args-returns-in-Some-clause-answers t c = args_empty _ c.in-Some.ensures

pub expressions::args-returns-then-not-begins_expr-clause-answers : goal.expressions::args-returns-then-not-begins_expr-clause-answers
expressions::args-returns-then-not-begins_expr-clause-answers t c = args_stops refl (sym c.if-not-begins_expr.ensures) c.in_default.ensures

pub expressions::args-returns-then-room-eq0-clause-answers : goal.expressions::args-returns-then-room-eq0-clause-answers
expressions::args-returns-then-room-eq0-clause-answers t c = args_deep c.if-room-eq0.true refl (sym c.if-not-begins_expr.ensures)

pub expressions::args-returns-in-Err-clause-answers : goal.expressions::args-returns-in-Err-clause-answers
expressions::args-returns-in-Err-clause-answers t c = step_fails (args_step _ _ c.in_default.ensures) _ refl (first_fails (many_carries exprs_listed) (many_fills _) c.in-Err.ensures.answers)

pub expressions::args-returns-in-Err-more_exprs-clause-answers : goal.expressions::args-returns-in-Err-more_exprs-clause-answers
expressions::args-returns-in-Err-more_exprs-clause-answers t c = step_fails (args_step _ _ c.in_default.ensures) _ refl (then_fails (many_carries exprs_listed) c.in-Ok.ensures.answers c.in-Err-more_exprs.ensures.answers)

pub expressions::args-returns-clause-answers : goal.expressions::args-returns-clause-answers
expressions::args-returns-clause-answers t c = step_reads (args_step _ _ c.in_default.ensures) _ refl (then_reads (many_carries exprs_listed) c.in-Ok.ensures.answers c.in-Ok-more_exprs.ensures.answers)

pub expressions::more_exprs-returns-in-Err-expr-clause-answers : goal.expressions::more_exprs-returns-in-Err-expr-clause-answers
expressions::more_exprs-returns-in-Err-expr-clause-answers t c = read_many_fails exprs_listed c.requires.room c.loop-after.invariant.items (item_fails exprs_listed c.requires.room (λ us. comma_here _ _ _ us c.in-Some.ensures) (past_sign 22 _ c.in-Some.ensures c.in-Err-expr.ensures.answers))

pub expressions::more_exprs-returns-clause-answers : goal.expressions::more_exprs-returns-clause-answers
expressions::more_exprs-returns-clause-answers t c = read_many_reads exprs_listed c.requires.room c.loop-after.invariant.items (many_ends (no_comma _ _ c.in_default.ensures))

pub operands::more_members-returns-in-Err-take_name-clause-answers : goal.operands::more_members-returns-in-Err-take_name-clause-answers
operands::more_members-returns-in-Err-take_name-clause-answers t c =
    read_many_fails members_listed c.requires.room c.loop-after.invariant.items (item_fails members_listed c.requires.room (λ us. comma_here _ _ _ us c.in-Some.ensures)
    (past_sign 22 _ c.in-Some.ensures (no_name _ (then_fills (sign_fills 19 _) (expr_fills _ (omega arith))) c.in-Err-take_name.ensures)))

pub operands::more_members-returns-in-Err-take_sign-clause-answers : goal.operands::more_members-returns-in-Err-take_sign-clause-answers
operands::more_members-returns-in-Err-take_sign-clause-answers t c =
    read_many_fails members_listed c.requires.room c.loop-after.invariant.items (item_fails members_listed c.requires.room (λ us. comma_here _ _ _ us c.in-Some.ensures)
    (past_sign 22 _ c.in-Some.ensures (past_name _ _ c.in-Ok-take_name.ensures (no_sign 19 _ (expr_fills _ (omega arith)) c.in-Err-take_sign.ensures))))

pub operands::more_members-returns-in-Err-expr-clause-answers : goal.operands::more_members-returns-in-Err-expr-clause-answers
operands::more_members-returns-in-Err-expr-clause-answers t c =
    read_many_fails members_listed c.requires.room c.loop-after.invariant.items (item_fails members_listed c.requires.room (λ us. comma_here _ _ _ us c.in-Some.ensures)
    (past_sign 22 _ c.in-Some.ensures (past_name _ _ c.in-Ok-take_name.ensures (past_sign 19 _ c.in-Ok-take_sign.ensures c.in-Err-expr.ensures.answers))))

pub operands::more_members-returns-clause-answers : goal.operands::more_members-returns-clause-answers
operands::more_members-returns-clause-answers t c = read_many_reads members_listed c.requires.room c.loop-after.invariant.items (many_ends (no_comma _ _ c.in_default.ensures))

-- ---- operators

-- ---- operands

pub operands::una-returns-then-room-eq1-clause-answers : goal.operands::una-returns-then-room-eq1-clause-answers
operands::una-returns-then-room-eq1-clause-answers t c = tilde_deep _ c.if-room-eq1.true c.in-Some.ensures refl

pub operands::una-returns-in-Some-clause-answers : goal.operands::una-returns-in-Some-clause-answers
operands::una-returns-in-Some-clause-answers t c = rw c.in-Some.ensures c.invert.ensures.answers

pub operands::una-returns-then-room-eq1-2-clause-answers : goal.operands::una-returns-then-room-eq1-2-clause-answers
operands::una-returns-then-room-eq1-2-clause-answers t c = bang_deep _ c.if-room-eq1-2.true c.in-Some-sign_here.ensures refl

pub operands::una-returns-in-Some-sign_here-clause-answers : goal.operands::una-returns-in-Some-sign_here-clause-answers
operands::una-returns-in-Some-sign_here-clause-answers t c = rw c.in-Some-sign_here.ensures c.negate.ensures.answers

pub operands::una-returns-in-Err-clause-answers : goal.operands::una-returns-in-Err-clause-answers
operands::una-returns-in-Err-clause-answers t c = step_fails (post_step _ _ c.in_default.ensures c.in_default-sign_here.ensures) _ refl (bind_fails (post_binds _) c.in-Err.ensures.answers)

pub operands::una-returns-in-Err-dots-clause-answers : goal.operands::una-returns-in-Err-dots-clause-answers
operands::una-returns-in-Err-dots-clause-answers t c =
    step_fails (post_step _ _ c.in_default.ensures c.in_default-sign_here.ensures) _ refl
    (step_fails (bind_step _ (post_binds _) c.in-Ok.ensures.read c.in-Ok.ensures.answers) _ c.in-Ok.ensures.answers.split c.in-Err-dots.ensures.answers)

pub operands::una-returns-clause-answers : goal.operands::una-returns-clause-answers
operands::una-returns-clause-answers t c =
    step_reads (post_step _ _ c.in_default.ensures c.in_default-sign_here.ensures) _ refl
    (step_reads (bind_step _ (post_binds _) c.in-Ok.ensures.read c.in-Ok.ensures.answers) _ c.in-Ok.ensures.answers.split c.in-Ok-dots.ensures.answers)

pub operands::invert-returns-in-Err-clause-answers : goal.operands::invert-returns-in-Err-clause-answers
operands::invert-returns-in-Err-clause-answers t c = step_fails (invert_step _ _ _ (omega arith)) _ refl c.in-Err.ensures.answers

pub operands::invert-returns-clause-answers : goal.operands::invert-returns-clause-answers
operands::invert-returns-clause-answers t c = step_reads (invert_step _ _ _ (omega arith)) _ refl c.in-Ok.ensures.answers

pub operands::negate-returns-in-Err-clause-answers : goal.operands::negate-returns-in-Err-clause-answers
operands::negate-returns-in-Err-clause-answers t c = step_fails (negate_step _ _ _ (omega arith)) _ refl c.in-Err.ensures.answers

pub operands::negate-returns-clause-answers : goal.operands::negate-returns-clause-answers
operands::negate-returns-clause-answers t c = step_reads (negate_step _ _ _ (omega arith)) _ refl c.in-Ok.ensures.answers

pub operands::atom-returns-in-Some-clause-answers : goal.operands::atom-returns-in-Some-clause-answers
operands::atom-returns-in-Some-clause-answers t c = number_reads _ _ c.requires c.in-Some.ensures

pub operands::atom-returns-in-Some-key_here-clause-answers : goal.operands::atom-returns-in-Some-key_here-clause-answers
operands::atom-returns-in-Some-key_here-clause-answers t c = true_reads _ c.requires c.in-Some-key_here.ensures

pub operands::atom-returns-in-Some-key_here-2-clause-answers : goal.operands::atom-returns-in-Some-key_here-2-clause-answers
operands::atom-returns-in-Some-key_here-2-clause-answers t c = false_reads _ c.requires c.in-Some-key_here-2.ensures

pub operands::atom-returns-in-Some-sign_here-clause-answers : goal.operands::atom-returns-in-Some-sign_here-clause-answers
operands::atom-returns-in-Some-sign_here-clause-answers t c = rw c.in-Some-sign_here.ensures c.bracket.ensures.answers

pub operands::high_atom-returns-then-room-eq1-clause-answers : goal.operands::high_atom-returns-then-room-eq1-clause-answers
operands::high_atom-returns-then-room-eq1-clause-answers t c = unpack_deep _ c.if-room-eq1.true c.in-Some.ensures refl

pub operands::high_atom-returns-in-Some-clause-answers : goal.operands::high_atom-returns-in-Some-clause-answers
operands::high_atom-returns-in-Some-clause-answers t c = rw c.in-Some.ensures c.unpack.ensures.answers

pub operands::high_atom-returns-then-room-eq1-2-clause-answers : goal.operands::high_atom-returns-then-room-eq1-2-clause-answers
operands::high_atom-returns-then-room-eq1-2-clause-answers t c = pack_deep _ c.if-room-eq1-2.true c.in-Some-key_here.ensures refl

pub operands::high_atom-returns-in-Some-key_here-clause-answers : goal.operands::high_atom-returns-in-Some-key_here-clause-answers
operands::high_atom-returns-in-Some-key_here-clause-answers t c = rw c.in-Some-key_here.ensures c.pack.ensures.answers

pub operands::high_atom-returns-then-room-eq1-3-clause-answers : goal.operands::high_atom-returns-then-room-eq1-3-clause-answers
operands::high_atom-returns-then-room-eq1-3-clause-answers t c = fetch_deep _ _ c.if-room-eq1-3.true c.in-Some-mem_here.ensures refl

pub operands::high_atom-returns-in-Some-mem_here-clause-answers : goal.operands::high_atom-returns-in-Some-mem_here-clause-answers
operands::high_atom-returns-in-Some-mem_here-clause-answers t c = rw c.in-Some-mem_here.ensures c.fetch.ensures.answers

pub operands::high_atom-returns-in-Err-clause-answers : goal.operands::high_atom-returns-in-Err-clause-answers
operands::high_atom-returns-in-Err-clause-answers t c = atom_stops _ c.requires.room c.requires.others c.in_default.ensures c.in_default-key_here.ensures c.in_default-mem_here.ensures c.in-Err.ensures

pub operands::high_atom-returns-then-room-eq1-4-clause-answers : goal.operands::high_atom-returns-then-room-eq1-4-clause-answers
operands::high_atom-returns-then-room-eq1-4-clause-answers t c = record_deep _ c.if-room-eq1-4.true c.in-Ok.ensures refl

pub operands::high_atom-returns-clause-answers : goal.operands::high_atom-returns-clause-answers
operands::high_atom-returns-clause-answers t c = rw c.in-Ok.ensures c.record_text.ensures.answers

pub operands::named-returns-in-Err-clause-answers : goal.operands::named-returns-in-Err-clause-answers
operands::named-returns-in-Err-clause-answers t c = named_fails _ c.requires.name c.in-Err.ensures

pub operands::named-returns-in_default-clause-answers : goal.operands::named-returns-in_default-clause-answers
operands::named-returns-in_default-clause-answers t c = variable_reads _ _ c.requires.room c.in-Ok.ensures c.in_default.ensures

pub operands::named-returns-in-Err-args-clause-answers : goal.operands::named-returns-in-Err-args-clause-answers
operands::named-returns-in-Err-args-clause-answers t c = step_fails (call_step _ _ _ _ _ (omega arith)) _ (call_split c.in-Ok.ensures c.in-Some.ensures) (first_fails (sign_ahead 29) (sign_fills 29 _) c.in-Err-args.ensures.answers)

pub operands::named-returns-in-Err-take_sign-clause-answers : goal.operands::named-returns-in-Err-take_sign-clause-answers
operands::named-returns-in-Err-take_sign-clause-answers t c = step_fails (call_step _ _ _ _ _ (omega arith)) _ (call_split c.in-Ok.ensures c.in-Some.ensures) (then_fails (sign_ahead 29) c.in-Ok-args.ensures.answers (sign_fails 29 _ _ _ c.in-Err-take_sign.ensures))

pub operands::named-returns-clause-answers : goal.operands::named-returns-clause-answers
operands::named-returns-clause-answers t c = step_reads (call_step _ _ _ _ _ (omega arith)) _ (call_split c.in-Ok.ensures c.in-Some.ensures) (then_reads (sign_ahead 29) c.in-Ok-args.ensures.answers (read_sign 29 _ _ c.in-Ok-take_sign.ensures))

pub operands::bracket-returns-in-Some-clause-answers : goal.operands::bracket-returns-in-Some-clause-answers
operands::bracket-returns-in-Some-clause-answers t c = unit_reads _ _ c.requires c.in-Some.ensures

pub operands::bracket-returns-then-not-begins_expr-clause-answers : goal.operands::bracket-returns-then-not-begins_expr-clause-answers
operands::bracket-returns-then-not-begins_expr-clause-answers t c = bracket_stops _ c.requires refl (sym c.if-not-begins_expr.ensures) c.in_default.ensures

pub operands::bracket-returns-then-room-eq1-clause-answers : goal.operands::bracket-returns-then-room-eq1-clause-answers
operands::bracket-returns-then-room-eq1-clause-answers t c = bracket_deep _ c.if-room-eq1.true refl (sym c.if-not-begins_expr.ensures) c.in_default.ensures

pub operands::bracket-returns-in-Err-clause-answers : goal.operands::bracket-returns-in-Err-clause-answers
operands::bracket-returns-in-Err-clause-answers t c = step_fails (bracket_step _ _ _ c.requires c.in_default.ensures) _ refl (first_fails (exprs_before 25 (omega arith)) (then_fills (many_fills _) (sign_fills 25 _)) c.in-Err.ensures.answers)

pub operands::bracket-returns-in-Err-more_exprs-clause-answers : goal.operands::bracket-returns-in-Err-more_exprs-clause-answers
operands::bracket-returns-in-Err-more_exprs-clause-answers t c = step_fails (bracket_step _ _ _ c.requires c.in_default.ensures) _ refl (then_fails (exprs_before 25 (omega arith)) c.in-Ok.ensures.answers (first_fails (sign_above 25 10 (omega arith)) (sign_fills 25 _) c.in-Err-more_exprs.ensures.answers))

-- ---- operators, with their left operands

pub operands::chain-returns-then-highest-room-clause-answers : goal.operands::chain-returns-then-highest-room-clause-answers
operands::chain-returns-then-highest-room-clause-answers t c =
    c.loop-op.invariant.onward.fails _ (chain_deep _ _ c.requires.many (low_found c.loop-op.invariant.measured c.loop-op.invariant.low c.loop-op.invariant.inside true) (sym c.loop-op.invariant.measured ∙ c.if-highest-room.true) c.in-Some.ensures refl)

pub operands::chain-returns-in-Err-clause-answers : goal.operands::chain-returns-in-Err-clause-answers
operands::chain-returns-in-Err-clause-answers t c =
    c.loop-op.invariant.onward.fails _ (operand_fails _ _ c.requires.many (omega arith) (low_found c.loop-op.invariant.measured c.loop-op.invariant.low c.loop-op.invariant.inside true) (not_same c.loop-op.invariant.measured c.if-highest-room.false) c.in-Some.ensures c.in-Err.ensures.answers)

pub operands::chain-returns-clause-answers : goal.operands::chain-returns-clause-answers
operands::chain-returns-clause-answers t c = c.loop-op.invariant.onward.reads _ (chain_ends _ _ c.requires.operators (low_found c.loop-op.invariant.measured c.loop-op.invariant.low c.loop-op.invariant.inside true) c.in_default.ensures)

pub operands::comparison-returns-in_default-clause-answers : goal.operands::comparison-returns-in_default-clause-answers
operands::comparison-returns-in_default-clause-answers t c = chain_ends _ _ five_not_one (low_found c.requires.measured c.requires.low c.requires.inside true) c.in_default.ensures

pub operands::comparison-returns-then-tall-room-clause-answers : goal.operands::comparison-returns-then-tall-room-clause-answers
operands::comparison-returns-then-tall-room-clause-answers t c = comparison_deep _ _ (low_found c.requires.measured c.requires.low c.requires.inside true) (sym c.requires.measured ∙ c.if-tall-room.true) c.in-Some.ensures refl

pub operands::comparison-returns-in-Err-clause-answers : goal.operands::comparison-returns-in-Err-clause-answers
operands::comparison-returns-in-Err-clause-answers t c = comparison_fails _ _ (omega arith) (low_found c.requires.measured c.requires.low c.requires.inside true) (not_same c.requires.measured c.if-tall-room.false) c.in-Some.ensures c.in-Err.ensures.answers

pub operands::comparison-returns-clause-answers : goal.operands::comparison-returns-clause-answers
operands::comparison-returns-clause-answers t c = comparison_reads _ _ (omega arith) (low_found c.requires.measured c.requires.low c.requires.inside true) (not_same c.requires.measured c.if-tall-room.false) c.in-Some.ensures c.in-Ok.ensures.answers

pub operands::level-returns-in-Err-shifts-clause-answers : goal.operands::level-returns-in-Err-shifts-clause-answers
operands::level-returns-in-Err-shifts-clause-answers t c = level_rest_fails _ _ 1 (sym c.if-l-eq2.true) (omega arith) c.in-Ok-level.ensures.read c.in-Ok-level.ensures.answers c.in-Err-shifts.ensures.answers

pub operands::level-returns-then-l-eq2-clause-answers : goal.operands::level-returns-then-l-eq2-clause-answers
operands::level-returns-then-l-eq2-clause-answers t c = level_reads _ _ 1 (sym c.if-l-eq2.true) (omega arith) c.in-Ok-level.ensures.read c.in-Ok-level.ensures.answers c.in-Ok-shifts.ensures.answers

pub operands::level-returns-in-Err-comparison-clause-answers : goal.operands::level-returns-in-Err-comparison-clause-answers
operands::level-returns-in-Err-comparison-clause-answers t c = level_rest_fails _ _ 5 (sym c.if-l-eq6.true) (omega arith) c.in-Ok-level.ensures.read c.in-Ok-level.ensures.answers c.in-Err-comparison.ensures.answers

pub operands::level-returns-then-l-eq6-clause-answers : goal.operands::level-returns-then-l-eq6-clause-answers
operands::level-returns-then-l-eq6-clause-answers t c = level_reads _ _ 5 (sym c.if-l-eq6.true) (omega arith) c.in-Ok-level.ensures.read c.in-Ok-level.ensures.answers c.in-Ok-comparison.ensures.answers

pub operands::level-returns-in-Err-chain-clause-answers : goal.operands::level-returns-in-Err-chain-clause-answers
operands::level-returns-in-Err-chain-clause-answers t c = level_rest_fails _ _ _ (level_pred _ c.if-l-eq0.false) refl c.in-Ok-level.ensures.read c.in-Ok-level.ensures.answers c.in-Err-chain.ensures.answers

pub operands::level-returns-clause-answers : goal.operands::level-returns-clause-answers
operands::level-returns-clause-answers t c = level_reads _ _ _ (level_pred _ c.if-l-eq0.false) refl c.in-Ok-level.ensures.read c.in-Ok-level.ensures.answers c.in-Ok-chain.ensures.answers

pub operands::level-returns-in-Err-clause-answers : goal.operands::level-returns-in-Err-clause-answers
operands::level-returns-in-Err-clause-answers t c = rw c.if-l-eq0.true (step_fails (una_step _ _) _ refl c.in-Err.ensures.answers)

pub operands::level-returns-then-l-eq0-clause-answers : goal.operands::level-returns-then-l-eq0-clause-answers
operands::level-returns-then-l-eq0-clause-answers t c = rw c.if-l-eq0.true (step_reads (una_step _ _) _ refl c.in-Ok.ensures.answers)

pub operands::level-returns-in-Err-level-clause-answers : goal.operands::level-returns-in-Err-level-clause-answers
operands::level-returns-in-Err-level-clause-answers t c = level_first_fails _ _ (level_pred _ c.if-l-eq0.false) c.in-Err-level.ensures.answers

pub operands::bracket-returns-in-Err-take_sign-clause-answers : goal.operands::bracket-returns-in-Err-take_sign-clause-answers
operands::bracket-returns-in-Err-take_sign-clause-answers t c =
    step_fails (bracket_step _ _ _ c.requires c.in_default.ensures) _ refl (then_fails (exprs_before 25 (omega arith)) c.in-Ok.ensures.answers (then_fails (sign_above 25 10 (omega arith)) c.in-Ok-more_exprs.ensures.answers (sign_fails 25 _ _ _ c.in-Err-take_sign.ensures)))

pub operands::bracket-returns-in-Some-sign_here-clause-answers : goal.operands::bracket-returns-in-Some-sign_here-clause-answers
operands::bracket-returns-in-Some-sign_here-clause-answers t c =
    step_reads (bracket_step _ _ _ c.requires c.in_default.ensures) _ refl (then_reads (exprs_before 25 (omega arith)) c.in-Ok.ensures.answers (then_reads (sign_above 25 10 (omega arith)) c.in-Ok-more_exprs.ensures.answers (read_sign 25 _ _ c.in-Ok-take_sign.ensures)))

pub operands::bracket-returns-in-Err-take_sign-2-clause-answers : goal.operands::bracket-returns-in-Err-take_sign-2-clause-answers
operands::bracket-returns-in-Err-take_sign-2-clause-answers t c =
    step_fails (bracket_step _ _ _ c.requires c.in_default.ensures) _ refl (then_fails (exprs_before 25 (omega arith)) c.in-Ok.ensures.answers (then_fails (sign_above 25 10 (omega arith)) (many_ends (no_comma _ _ c.in_default-sign_here.ensures)) (sign_fails 25 _ _ _ c.in-Err-take_sign-2.ensures)))

pub operands::bracket-returns-clause-answers : goal.operands::bracket-returns-clause-answers
operands::bracket-returns-clause-answers t c =
    step_reads (bracket_step _ _ _ c.requires c.in_default.ensures) _ refl (then_reads (exprs_before 25 (omega arith)) c.in-Ok.ensures.answers (then_reads (sign_above 25 10 (omega arith)) (many_ends (no_comma _ _ c.in_default-sign_here.ensures)) (read_sign 25 _ _ c.in-Ok-take_sign-2.ensures)))

pub expressions::statement-returns-in_default-mem_here-clause-answers : goal.expressions::statement-returns-in_default-mem_here-clause-answers
expressions::statement-returns-in_default-mem_here-clause-answers t c = statement_stops c.requires refl c.in_default.ensures c.in_default-mem_here.ensures

pub expressions::statement-returns-in_default-clause-answers : goal.expressions::statement-returns-in_default-clause-answers
expressions::statement-returns-in_default-clause-answers t c = rw c.in-Some-mem_here.ensures c.store.ensures.answers

pub expressions::statement-returns-in_default-clause-read : goal.expressions::statement-returns-in_default-clause-read
expressions::statement-returns-in_default-clause-read t c = rw c.in-Some-mem_here.ensures c.store.ensures.read

pub operands::atom-named-requires : goal.operands::atom-named-requires
operands::atom-named-requires t c = (omega (arith, c.decreases), (c.requires, rw c.in-Some-name_here.ensures begins_name))

pub operands::chain-level-requires : goal.operands::chain-level-requires
operands::chain-level-requires t c =
    let high = height_pos (tree_of c.loop-op.left) in
    let same = c.loop-op.invariant.measured in
    let below = c.loop-op.invariant.low in
    let shorter = c.loop-op.invariant.shorter in
    let after = ap length c.in-Some.ensures.split in
    let apart = c.if-highest-room.false in
    (omega (arith, c.decreases, c.requires.known, shorter, after), (omega (arith, c.requires.known), omega (arith, high, same, below, apart)))

pub expressions::block-returns-in_default-clause-answers : goal.expressions::block-returns-in_default-clause-answers
expressions::block-returns-in_default-clause-answers t c = no_memory

pub expressions::more_statements-returns-in-Err-clause-answers : goal.expressions::more_statements-returns-in-Err-clause-answers
expressions::more_statements-returns-in-Err-clause-answers t c = no_memory

pub expressions::more_statements-returns-in-Err-push-clause-answers : goal.expressions::more_statements-returns-in-Err-push-clause-answers
expressions::more_statements-returns-in-Err-push-clause-answers t c = no_memory

pub expressions::if_else-returns-in_default-clause-answers : goal.expressions::if_else-returns-in_default-clause-answers
expressions::if_else-returns-in_default-clause-answers t c = no_memory

pub expressions::try_handle-returns-in_default-clause-answers : goal.expressions::try_handle-returns-in_default-clause-answers
expressions::try_handle-returns-in_default-clause-answers t c = no_memory

pub expressions::more_exprs-returns-in-Err-clause-answers : goal.expressions::more_exprs-returns-in-Err-clause-answers
expressions::more_exprs-returns-in-Err-clause-answers t c = no_memory

pub expressions::more_exprs-returns-in-Err-push-clause-answers : goal.expressions::more_exprs-returns-in-Err-push-clause-answers
expressions::more_exprs-returns-in-Err-push-clause-answers t c = no_memory

pub operands::chain-returns-in_default-binary-clause-answers : goal.operands::chain-returns-in_default-binary-clause-answers
operands::chain-returns-in_default-binary-clause-answers t c = no_memory

pub operands::comparison-returns-in_default-binary-clause-answers : goal.operands::comparison-returns-in_default-binary-clause-answers
operands::comparison-returns-in_default-binary-clause-answers t c = no_memory

pub operands::invert-returns-in_default-clause-answers : goal.operands::invert-returns-in_default-clause-answers
operands::invert-returns-in_default-clause-answers t c = no_memory

pub operands::negate-returns-in_default-clause-answers : goal.operands::negate-returns-in_default-clause-answers
operands::negate-returns-in_default-clause-answers t c = no_memory

pub operands::unpack-returns-in_default-clause-answers : goal.operands::unpack-returns-in_default-clause-answers
operands::unpack-returns-in_default-clause-answers t c = no_memory

pub operands::pack-returns-in_default-clause-answers : goal.operands::pack-returns-in_default-clause-answers
operands::pack-returns-in_default-clause-answers t c = no_memory

pub operands::fetch-returns-in_default-clause-answers : goal.operands::fetch-returns-in_default-clause-answers
operands::fetch-returns-in_default-clause-answers t c = no_memory

pub operands::bracket-returns-in_default-paren-clause-answers : goal.operands::bracket-returns-in_default-paren-clause-answers
operands::bracket-returns-in_default-paren-clause-answers t c = no_memory

pub operands::more_members-returns-in-Err-clause-answers : goal.operands::more_members-returns-in-Err-clause-answers
operands::more_members-returns-in-Err-clause-answers t c = no_memory

pub operands::more_members-returns-in-Err-push-clause-answers : goal.operands::more_members-returns-in-Err-push-clause-answers
operands::more_members-returns-in-Err-push-clause-answers t c = no_memory
