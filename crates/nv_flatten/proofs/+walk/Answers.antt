use Rattle.std.proofs.Common.{◌≡◌, ◌∙◌, ◌≤◌, ◌<◌, ◌+◌, [], refl, ap, subst, length, arith, option_map, take}
use Rattle.nv_base.specs.Words.{compares}
use Rattle.nv_base.proofs.WordLemmas.{negated_compares}
use Rattle.nv_ast.specs.ExprView.{tree_of, list_trees, list_named_trees, list_statements, statement_tree}
use Rattle.nv_ast.specs.PatternView.{pattern_tree, list_patterns}
use Rattle.nv_meaning.specs.inner.Weight.{weight, weight_statement, weight_all, weight_named, weight_statements}
use Rattle.nv_meaning.proofs.Falls.{item-weight, item-weight_named, item-weight_statement}
use Rattle.nv_flatten_values.specs.inner.Symbols.{bound, all_fresh, all_bound, symbol_in}
use Rattle.nv_flatten_values.specs.inner.Simulation.{Extends}
use Rattle.nv_flatten_values.specs.inner.View.{view, scope_of}
use Rattle.nv_flatten_values.specs.inner.Whole.{raised_or_none}
use Rattle.nv_flatten_values.specs.inner.WholeView.{whole_in}
use Rattle.nv_flatten_values.proofs.Keeping.{extends-itself, extends-then}
use Rattle.nv_flatten_values.proofs.Rows.{tuple_view, record_view}
use Rattle.nv_flatten.proofs.Ranks.{value_rank, value_rank-small, ending_rank, ending_rank-small, condition_rank, condition_rank-small, named-below, truth-below, given-below, decided-below}
use Rattle.nv_flatten.proofs.WalkArms.{cut-back, extends-same}
use Rattle.nv_flatten_values.proofs.CallArms.{restored}
use Rattle.nv_flatten.proofs.FlatViews.{mapped, held, value-tree, value-in, value-as, statement-as, test-tree, test-as, end-tree, end-in, end-as}
use Rattle.nv_flatten.proofs.FlatValues.{number-flat, truth-flat, variable-flat, paren-flat, tuple-flat, record-flat, dot-flat, block-flat}
use Rattle.nv_flatten.proofs.FlatLists.{let-flat, front-start, front-step, front-end, fields-start, fields-step, fields-last, led-start, led-step, led-end}
use Rattle.nv_flatten.proofs.FlatEnds.{paren-test-flat, negate-test-flat, truth-test-flat, paren-end-flat, try-flat, block-end-flat}
use Rattle.nv_flatten.proofs.+walk.Goals as goal

pub values::value-returns-in-Number-clause-flat : goal.values::value-returns-in-Number-clause-flat
values::value-returns-in-Number-clause-flat t c = value-tree _ _ _ _ _ _ _ _ _ _ c.in-Number.ensures.1 (value-as _ _ _ _ _ _ _ _ _ _ _ _ refl c.constant.ensures.steps (ap view c.constant.ensures.symbol ∙ c.number.ensures) (number-flat _ _ _ _ _ _))

pub values::value-returns-in-Truth-clause-flat : goal.values::value-returns-in-Truth-clause-flat
values::value-returns-in-Truth-clause-flat t c = value-tree _ _ _ _ _ _ _ _ _ _ c.in-Truth.ensures.1 (value-as _ _ _ _ _ _ _ _ _ _ _ _ refl c.constant-in-Truth.ensures.steps (ap view c.constant-in-Truth.ensures.symbol ∙ c.bit.ensures) (truth-flat _ _ _ _ _ _))

pub values::value-returns-in_ok-variable-in-Var-clause-flat : goal.values::value-returns-in_ok-variable-in-Var-clause-flat
values::value-returns-in_ok-variable-in-Var-clause-flat t c = value-tree _ _ _ _ _ _ _ _ _ _ c.in-Var.ensures.1
    (value-as _ _ _ _ _ _ _ _ _ _ _ _ refl c.constant-in-Var.ensures.steps (ap view c.constant-in-Var.ensures.symbol ∙ c.in_ok-variable-in-Var.ensures ∙ ap (λ l. symbol_in (scope_of l []) c.in-Var.x.now) c.deref.ensures.value) (variable-flat _ _ _ _ _ _))

pub values::value-returns-in-Paren : goal.values::value-returns-in-Paren
values::value-returns-in-Paren t c = record { flat = mapped c.value.result (λ x h. value-tree _ _ _ _ _ _ _ _ _ _ c.in-Paren.ensures.1 (paren-flat _ _ _ _ _ _ _ _ _ _ h)) c.value.ensures.flat; scope = c.value.ensures.scope; names = c.value.ensures.names; later = c.value.ensures.later }

pub values::value-returns-in-Tuple : goal.values::value-returns-in-Tuple
values::value-returns-in-Tuple t c = record { flat = mapped c.tuple.result (λ x h. value-tree _ _ _ _ _ _ _ _ _ _ c.in-Tuple.ensures.1 (h c.in-Tuple.ensures.0)) c.tuple.ensures.flat; scope = c.tuple.ensures.scope; names = c.tuple.ensures.names; later = c.tuple.ensures.later }

pub values::value-returns-in-Fields : goal.values::value-returns-in-Fields
values::value-returns-in-Fields t c = record { flat = mapped c.record.result (λ x h. value-tree _ _ _ _ _ _ _ _ _ _ c.in-Fields.ensures.1 (h c.in-Fields.ensures.0)) c.record.ensures.flat; scope = c.record.ensures.scope; names = c.record.ensures.names; later = c.record.ensures.later }

pub values::value-returns-in-Dot : goal.values::value-returns-in-Dot
values::value-returns-in-Dot t c = record { flat = mapped c.dot.result (λ x h. value-tree _ _ _ _ _ _ _ _ _ _ c.in-Dot.ensures.1 (h c.in-Dot.ensures.0)) c.dot.ensures.flat; scope = c.dot.ensures.scope; names = c.dot.ensures.names; later = c.dot.ensures.later }

pub values::value-returns-in-Invert : goal.values::value-returns-in-Invert
values::value-returns-in-Invert t c = record { flat = mapped c.invert.result (λ x h. value-tree _ _ _ _ _ _ _ _ _ _ c.in-Invert.ensures.1 (h c.in-Invert.ensures.0)) c.invert.ensures.flat; scope = c.invert.ensures.scope; names = c.invert.ensures.names; later = c.invert.ensures.later }

pub values::value-returns-in-Negate : goal.values::value-returns-in-Negate
values::value-returns-in-Negate t c = record { flat = mapped c.negate.result (λ x h. value-tree _ _ _ _ _ _ _ _ _ _ c.in-Negate.ensures.1 (h c.in-Negate.ensures.0)) c.negate.ensures.flat; scope = c.negate.ensures.scope; names = c.negate.ensures.names; later = c.negate.ensures.later }

pub values::value-returns-in-Shift : goal.values::value-returns-in-Shift
values::value-returns-in-Shift t c = record { flat = mapped c.shift.result (λ x h. value-tree _ _ _ _ _ _ _ _ _ _ c.in-Shift.ensures.1 (h c.in-Shift.ensures.0)) c.shift.ensures.flat; scope = c.shift.ensures.scope; names = c.shift.ensures.names; later = c.shift.ensures.later }

pub values::value-returns-in-Unpack : goal.values::value-returns-in-Unpack
values::value-returns-in-Unpack t c = record { flat = mapped c.unpack.result (λ x h. value-tree _ _ _ _ _ _ _ _ _ _ c.in-Unpack.ensures.1 (h c.in-Unpack.ensures.0)) c.unpack.ensures.flat; scope = c.unpack.ensures.scope; names = c.unpack.ensures.names; later = c.unpack.ensures.later }

pub values::value-returns-in-Pack : goal.values::value-returns-in-Pack
values::value-returns-in-Pack t c = record { flat = mapped c.pack.result (λ x h. value-tree _ _ _ _ _ _ _ _ _ _ c.in-Pack.ensures.1 (h c.in-Pack.ensures.0)) c.pack.ensures.flat; scope = c.pack.ensures.scope; names = c.pack.ensures.names; later = c.pack.ensures.later }

pub values::value-returns-in-Fetch : goal.values::value-returns-in-Fetch
values::value-returns-in-Fetch t c = record { flat = mapped c.fetch.result (λ x h. value-tree _ _ _ _ _ _ _ _ _ _ c.in-Fetch.ensures.1 (h c.in-Fetch.ensures.0)) c.fetch.ensures.flat; scope = c.fetch.ensures.scope; names = c.fetch.ensures.names; later = c.fetch.ensures.later }

pub values::value-returns-in-Block : goal.values::value-returns-in-Block
values::value-returns-in-Block t c = record { flat = mapped c.block.result (λ x h. value-tree _ _ _ _ _ _ _ _ _ _ c.in-Block.ensures.1 (h c.in-Block.ensures.0)) c.block.ensures.flat; scope = c.block.ensures.scope; names = c.block.ensures.names; later = c.block.ensures.later }

pub values::value-returns-in-Combine : goal.values::value-returns-in-Combine
values::value-returns-in-Combine t c = record { flat = mapped c.combine.result (λ x h. value-tree _ _ _ _ _ _ _ _ _ _ c.in-Combine.ensures.3 (h c.in-Combine.ensures.0 c.in-Combine.ensures.1 c.in-Combine.ensures.2)) c.combine.ensures.flat; scope = c.combine.ensures.scope; names = c.combine.ensures.names; later = c.combine.ensures.later }

pub values::value-returns-in-Named : goal.values::value-returns-in-Named
values::value-returns-in-Named t c = record { flat = c.named.ensures.flat c.in-Named.ensures; scope = c.named.ensures.scope; names = c.named.ensures.names; later = c.named.ensures.later }

pub values::value-value-requires : goal.values::value-value-requires
values::value-value-requires t c = (let w : weight (tree_of c.args.e.now) ≡ 1 + weight (tree_of c.in-Paren.a.now) = ap (λ t. weight t) c.in-Paren.ensures.1 in let r : value_rank (tree_of c.in-Paren.a.now) < 6 = value_rank-small (tree_of c.in-Paren.a.now) in omega (arith, w, r, c.decreases), tt)

pub values::value-tuple-requires : goal.values::value-tuple-requires
values::value-tuple-requires t c = (let w : weight (tree_of c.args.e.now) ≡ 1 + weight_all (list_trees c.in-Tuple.es.now) = ap (λ t. weight t) c.in-Tuple.ensures.1 in omega (arith, w, c.decreases), tt)

pub values::value-record-requires : goal.values::value-record-requires
values::value-record-requires t c = (let w : weight (tree_of c.args.e.now) ≡ 1 + weight_named (list_named_trees c.in-Fields.es.now) = ap (λ t. weight t) c.in-Fields.ensures.1 in omega (arith, w, c.decreases), tt)

pub values::value-dot-requires : goal.values::value-dot-requires
values::value-dot-requires t c = (let w : weight (tree_of c.args.e.now) ≡ 1 + weight (tree_of c.in-Dot.a.now) = ap (λ t. weight t) c.in-Dot.ensures.1 in omega (arith, w, c.decreases), tt)

pub values::value-invert-requires : goal.values::value-invert-requires
values::value-invert-requires t c = (let w : weight (tree_of c.args.e.now) ≡ 1 + weight (tree_of c.in-Invert.a.now) = ap (λ t. weight t) c.in-Invert.ensures.1 in omega (arith, w, c.decreases), tt)

pub values::value-negate-requires : goal.values::value-negate-requires
values::value-negate-requires t c = (let w : weight (tree_of c.args.e.now) ≡ 1 + weight (tree_of c.in-Negate.a.now) = ap (λ t. weight t) c.in-Negate.ensures.1 in omega (arith, w, c.decreases), tt)

pub values::value-shift-requires : goal.values::value-shift-requires
values::value-shift-requires t c = (let w : weight (tree_of c.args.e.now) ≡ 1 + weight (tree_of c.in-Shift.a.now) = ap (λ t. weight t) c.in-Shift.ensures.1 in omega (arith, w, c.decreases), tt)

pub values::value-unpack-requires : goal.values::value-unpack-requires
values::value-unpack-requires t c = (let w : weight (tree_of c.args.e.now) ≡ 1 + weight (tree_of c.in-Unpack.a.now) = ap (λ t. weight t) c.in-Unpack.ensures.1 in omega (arith, w, c.decreases), tt)

pub values::value-pack-requires : goal.values::value-pack-requires
values::value-pack-requires t c = (let w : weight (tree_of c.args.e.now) ≡ 1 + weight (tree_of c.in-Pack.a.now) = ap (λ t. weight t) c.in-Pack.ensures.1 in omega (arith, w, c.decreases), tt)

pub values::value-fetch-requires : goal.values::value-fetch-requires
values::value-fetch-requires t c = (let w : weight (tree_of c.args.e.now) ≡ 1 + weight (tree_of c.in-Fetch.a.now) = ap (λ t. weight t) c.in-Fetch.ensures.1 in omega (arith, w, c.decreases), tt)

pub values::value-combine-requires : goal.values::value-combine-requires
values::value-combine-requires t c = (let w : weight (tree_of c.args.e.now) ≡ 1 + (weight (tree_of c.in-Combine.a.now) + weight (tree_of c.in-Combine.b.now)) = ap (λ t. weight t) c.in-Combine.ensures.3 in omega (arith, w, c.decreases), tt)

pub values::value-block-requires : goal.values::value-block-requires
values::value-block-requires t c = (let w : weight (tree_of c.args.e.now) ≡ 1 + (weight_statements (list_statements c.in-Block.sts.now) + weight (tree_of c.in-Block.a.now)) = ap (λ t. weight t) c.in-Block.ensures.1 in omega (arith, w, c.decreases), tt)

pub values::value-named-requires : goal.values::value-named-requires
values::value-named-requires t c = (omega (arith, named-below (tree_of c.args.e.now) c.in-Named.ensures, c.decreases), tt)

pub values::named-returns-in-Err : goal.values::named-returns-in-Err
values::named-returns-in-Err t c = record { flat = λ _. tt; scope = tt; names = c.ending.ensures.names; later = c.ending.ensures.later }

pub values::named-returns : goal.values::named-returns
values::named-returns t c =
    record {
      flat = λ named. mapped c.bound_value.result (λ r h. h _ _ _ _ _ _ named c.in-Ok.ensures.later c.in-Ok.ensures.flat) c.bound_value.ensures.flat;
      scope = held c.bound_value.result c.in-Ok.ensures.scope;
      names = c.ending.ensures.names;
      later = omega (arith, c.ending.ensures.later, c.bound_value.ensures.later);
    }

pub values::named-ending-requires : goal.values::named-ending-requires
values::named-ending-requires t c = (omega (arith, c.decreases), tt)

pub values::tuple-returns-in-Err : goal.values::tuple-returns-in-Err
values::tuple-returns-in-Err t c = record { flat = tt; scope = tt; names = c.each.ensures.names; later = c.each.ensures.later }

pub values::tuple-returns : goal.values::tuple-returns
values::tuple-returns t c =
    record {
      flat = λ s. value-as _ _ _ _ _ _ _ _ _ _ _ _ refl refl (tuple_view c.in-Ok.found.symbols) (tuple-flat _ _ _ _ _ _ s _ _ _ c.in-Ok.ensures.flat);
      scope = c.in-Ok.ensures.scope;
      names = c.each.ensures.names;
      later = c.each.ensures.later;
    }

pub values::tuple-each-requires : goal.values::tuple-each-requires
values::tuple-each-requires t c =
    (omega (arith, c.decreases), tt)

pub values::dot-returns-in-Err : goal.values::dot-returns-in-Err
values::dot-returns-in-Err t c = record { flat = tt; scope = tt; names = c.value.ensures.names; later = c.value.ensures.later }

pub values::dot-returns : goal.values::dot-returns
values::dot-returns t c =
    record {
      flat = λ s. value-as _ _ _ _ _ _ _ _ _ _ _ _ refl refl c.field_in.ensures (dot-flat _ _ _ _ _ _ s _ _ _ _ c.in-Ok.ensures.flat);
      scope = c.in-Ok.ensures.scope;
      names = c.value.ensures.names;
      later = c.value.ensures.later;
    }

pub values::dot-value-requires : goal.values::dot-value-requires
values::dot-value-requires t c =
    (let r = value_rank-small (tree_of c.args.a.now) in omega (arith, r, c.decreases), tt)

pub values::invert-returns-in-Err : goal.values::invert-returns-in-Err
values::invert-returns-in-Err t c = record { flat = tt; scope = tt; names = c.value.ensures.names; later = c.value.ensures.later }

pub values::invert-returns : goal.values::invert-returns
values::invert-returns t c =
    record {
      flat = mapped c.inverted.result (λ r h s. h _ _ _ _ _ s _ c.in-Ok.ensures.later c.in-Ok.ensures.flat) c.inverted.ensures.flat;
      scope = held c.inverted.result c.in-Ok.ensures.scope;
      names = c.value.ensures.names;
      later = omega (arith, c.value.ensures.later, c.inverted.ensures.later);
    }

pub values::invert-value-requires : goal.values::invert-value-requires
values::invert-value-requires t c =
    (let r = value_rank-small (tree_of c.args.a.now) in omega (arith, r, c.decreases), tt)

pub values::negate-returns-in-Err : goal.values::negate-returns-in-Err
values::negate-returns-in-Err t c = record { flat = tt; scope = tt; names = c.value.ensures.names; later = c.value.ensures.later }

pub values::negate-returns : goal.values::negate-returns
values::negate-returns t c =
    record {
      flat = mapped c.negated.result (λ r h s. h _ _ _ _ _ s _ c.in-Ok.ensures.later c.in-Ok.ensures.flat) c.negated.ensures.flat;
      scope = held c.negated.result c.in-Ok.ensures.scope;
      names = c.value.ensures.names;
      later = omega (arith, c.value.ensures.later, c.negated.ensures.later);
    }

pub values::negate-value-requires : goal.values::negate-value-requires
values::negate-value-requires t c =
    (let r = value_rank-small (tree_of c.args.a.now) in omega (arith, r, c.decreases), tt)

pub values::shift-returns-in-Err : goal.values::shift-returns-in-Err
values::shift-returns-in-Err t c = record { flat = tt; scope = tt; names = c.value.ensures.names; later = c.value.ensures.later }

pub values::shift-returns : goal.values::shift-returns
values::shift-returns t c =
    record {
      flat = mapped c.shifted_by.result (λ r h s. h _ _ _ _ _ s _ c.in-Ok.ensures.later c.in-Ok.ensures.flat) c.shifted_by.ensures.flat;
      scope = held c.shifted_by.result c.in-Ok.ensures.scope;
      names = c.value.ensures.names;
      later = omega (arith, c.value.ensures.later, c.shifted_by.ensures.later);
    }

pub values::shift-value-requires : goal.values::shift-value-requires
values::shift-value-requires t c =
    (let r = value_rank-small (tree_of c.args.a.now) in omega (arith, r, c.decreases), tt)

pub values::unpack-returns-in-Err : goal.values::unpack-returns-in-Err
values::unpack-returns-in-Err t c = record { flat = tt; scope = tt; names = c.value.ensures.names; later = c.value.ensures.later }

pub values::unpack-returns : goal.values::unpack-returns
values::unpack-returns t c =
    record {
      flat = mapped c.unpacked_value.result (λ r h s. h _ _ _ _ s _ c.in-Ok.ensures.later c.in-Ok.ensures.flat) c.unpacked_value.ensures.flat;
      scope = held c.unpacked_value.result c.in-Ok.ensures.scope;
      names = c.value.ensures.names;
      later = omega (arith, c.value.ensures.later, c.unpacked_value.ensures.later);
    }

pub values::unpack-value-requires : goal.values::unpack-value-requires
values::unpack-value-requires t c =
    (let r = value_rank-small (tree_of c.args.a.now) in omega (arith, r, c.decreases), tt)

pub values::pack-returns-in-Err : goal.values::pack-returns-in-Err
values::pack-returns-in-Err t c = record { flat = tt; scope = tt; names = c.value.ensures.names; later = c.value.ensures.later }

pub values::pack-returns : goal.values::pack-returns
values::pack-returns t c =
    record {
      flat = mapped c.packed_value.result (λ r h s. h _ _ _ _ s _ c.in-Ok.ensures.later c.in-Ok.ensures.flat) c.packed_value.ensures.flat;
      scope = held c.packed_value.result c.in-Ok.ensures.scope;
      names = c.value.ensures.names;
      later = omega (arith, c.value.ensures.later, c.packed_value.ensures.later);
    }

pub values::pack-value-requires : goal.values::pack-value-requires
values::pack-value-requires t c =
    (let r = value_rank-small (tree_of c.args.a.now) in omega (arith, r, c.decreases), tt)

pub values::fetch-returns-in-Err : goal.values::fetch-returns-in-Err
values::fetch-returns-in-Err t c = record { flat = tt; scope = tt; names = c.value.ensures.names; later = c.value.ensures.later }

pub values::fetch-returns : goal.values::fetch-returns
values::fetch-returns t c =
    record {
      flat = mapped c.fetched.result (λ r h s. h _ _ _ _ _ s _ c.in-Ok.ensures.later c.in-Ok.ensures.flat) c.fetched.ensures.flat;
      scope = held c.fetched.result c.in-Ok.ensures.scope;
      names = c.value.ensures.names;
      later = omega (arith, c.value.ensures.later, c.fetched.ensures.later);
    }

pub values::fetch-value-requires : goal.values::fetch-value-requires
values::fetch-value-requires t c =
    (let r = value_rank-small (tree_of c.args.a.now) in omega (arith, r, c.decreases), tt)

pub values::combine-returns-in-Err : goal.values::combine-returns-in-Err
values::combine-returns-in-Err t c = record { flat = tt; scope = tt; names = c.value.ensures.names; later = c.value.ensures.later }

pub values::combine-returns-in-Err-value : goal.values::combine-returns-in-Err-value
values::combine-returns-in-Err-value t c = record { flat = tt; scope = tt; names = extends-then c.args.names.now c.value.new.names c.value-2.new.names c.value.ensures.names c.value-2.ensures.names; later = omega (arith, c.value.ensures.later, c.value-2.ensures.later) }

pub values::combine-returns : goal.values::combine-returns
values::combine-returns t c =
    record {
      flat = mapped c.combined.result (λ r h s op is. h _ _ _ _ _ _ _ s op _ _ is c.in-Ok-value.ensures.names c.in-Ok.ensures.later c.in-Ok-value.ensures.later c.in-Ok.ensures.flat (value-in _ _ _ _ _ _ _ _ _ _ c.in-Ok.ensures.scope c.in-Ok-value.ensures.flat)) c.combined.ensures.flat;
      scope = held c.combined.result (c.in-Ok-value.ensures.scope ∙ c.in-Ok.ensures.scope);
      names = extends-then c.args.names.now c.value.new.names c.value-2.new.names c.value.ensures.names c.value-2.ensures.names;
      later = omega (arith, c.value.ensures.later, c.value-2.ensures.later, c.combined.ensures.later);
    }

pub values::combine-value-requires : goal.values::combine-value-requires
values::combine-value-requires t c =
    (let r = value_rank-small (tree_of c.args.a.now) in omega (arith, r, c.decreases), tt)

pub values::combine-value-requires-2 : goal.values::combine-value-requires-2
values::combine-value-requires-2 t c =
    (let r = value_rank-small (tree_of c.args.b.now) in omega (arith, r, c.decreases), tt)

pub values::block-returns-in-Err : goal.values::block-returns-in-Err
values::block-returns-in-Err t c = record { flat = tt; scope = tt; names = c.statements.ensures.names; later = c.statements.ensures.later }

pub values::block-returns-in-Err-value : goal.values::block-returns-in-Err-value
values::block-returns-in-Err-value t c = record { flat = tt; scope = tt; names = extends-then c.args.names.now c.statements.new.names c.value.new.names c.statements.ensures.names c.value.ensures.names; later = omega (arith, c.statements.ensures.later, c.value.ensures.later) }

pub values::block-returns : goal.values::block-returns
values::block-returns t c =
    record {
      flat = mapped c.behind.result (λ r h s. value-as _ _ _ _ _ _ _ _ _ _ _ _ refl h.0 h.1 (block-flat _ _ _ _ _ _ _ _ _ s _ _ _ _ _ c.in-Ok-value.ensures.names c.in-Ok.ensures.later c.in-Ok.ensures.flat c.in-Ok-value.ensures.flat)) c.behind.ensures;
      scope = let e : c.len-outside.result ≡ length c.args.scope.now.items = omega (arith, c.args.scope.now.ok.0, c.len-outside.ensures) in held c.behind.result (cut-back c.args.scope.now.items c.statements.new.scope.items c.value.new.scope.items c.truncate.new.self.items c.len-outside.result e c.in-Ok.ensures.scope c.in-Ok-value.ensures.scope c.truncate.ensures.items);
      names = extends-then c.args.names.now c.statements.new.names c.value.new.names c.statements.ensures.names c.value.ensures.names;
      later = omega (arith, c.statements.ensures.later, c.value.ensures.later);
    }

pub values::block-statements-requires : goal.values::block-statements-requires
values::block-statements-requires t c =
    (omega (arith, c.decreases), tt)

pub values::block-value-requires : goal.values::block-value-requires
values::block-value-requires t c =
    (let r = value_rank-small (tree_of c.args.a.now) in omega (arith, r, c.decreases), tt)

pub values::record-loop-e-init : goal.values::record-loop-e-init
values::record-loop-e-init t c =
    record {
      front = fields-start _ _ _ _ _ _ _ c.in_ok-recorded.ensures.steps c.in_ok-recorded.ensures.fields;
      same = refl;
      names = extends-itself c.args.names.now;
      later = omega arith;
    }

pub values::record-loop-e-preserved : goal.values::record-loop-e-preserved
values::record-loop-e-preserved t c =
    let later : c.loop-e.next ≤ c.value.new.next = c.in-Ok.ensures.later in
    let before : c.args.next.now ≤ c.loop-e.next = c.loop-e.invariant.later in
    record {
      front = fields-step _ _ _ _ _ _ _ _ _ c.args.es.now c.loop-e.e-index c.e-item.result _ _ _ _ _ (_, c.in-Ok.found.symbol) refl (omega arith) c.e-item.is c.in-Ok-add_field.ensures.steps c.in-Ok-add_field.ensures.fields c.loop-e.invariant.same c.in-Ok.ensures.names before later c.loop-e.invariant.front c.in-Ok.ensures.flat;
      same = c.in-Ok.ensures.scope ∙ c.loop-e.invariant.same;
      names = extends-then c.args.names.now c.loop-e.names c.value.new.names c.loop-e.invariant.names c.in-Ok.ensures.names;
      later = omega arith;
    }

pub values::record-returns-in-Err : goal.values::record-returns-in-Err
values::record-returns-in-Err t c = record { flat = tt; scope = tt; names = extends-then c.args.names.now c.loop-e.names c.value.new.names c.loop-e.invariant.names c.value.ensures.names; later = omega (arith, c.loop-e.invariant.later, c.value.ensures.later) }

pub values::record-returns-in-Err-add_field : goal.values::record-returns-in-Err-add_field
values::record-returns-in-Err-add_field t c = record { flat = tt; scope = tt; names = extends-then c.args.names.now c.loop-e.names c.value.new.names c.loop-e.invariant.names c.value.ensures.names; later = omega (arith, c.loop-e.invariant.later, c.value.ensures.later) }

pub values::record-returns : goal.values::record-returns
values::record-returns t c =
    record {
      flat = λ s. value-as _ _ _ _ _ _ _ _ _ _ _ _ refl refl (record_view c.loop-e.recorded.fields) (record-flat _ _ _ _ _ _ s _ _ _ (fields-last _ _ _ _ _ _ c.args.es.now c.loop-e.e-index _ _ (omega arith) c.loop-e.invariant.front));
      scope = c.loop-e.invariant.same;
      names = c.loop-e.invariant.names;
      later = c.loop-e.invariant.later;
    }

pub values::record-value-requires : goal.values::record-value-requires
values::record-value-requires t c =
    (let k = item-weight_named c.args.es.now c.loop-e.e-index c.e-item.result (omega arith) c.e-item.is in let r = value_rank-small (tree_of c.e-item.result.1) in omega (arith, k, r, c.decreases), tt)

pub values::each-loop-e-init : goal.values::each-loop-e-init
values::each-loop-e-init t c =
    record {
      front = front-start _ _ _ _ _ _ _ c.in_ok-listed.ensures.steps c.in_ok-listed.ensures.symbols;
      same = refl;
      names = extends-itself c.args.names.now;
      later = omega arith;
    }

pub values::each-loop-e-preserved : goal.values::each-loop-e-preserved
values::each-loop-e-preserved t c =
    let later : c.loop-e.next ≤ c.value.new.next = c.in-Ok.ensures.later in
    let before : c.args.next.now ≤ c.loop-e.next = c.loop-e.invariant.later in
    record {
      front = front-step _ _ _ _ _ _ _ _ _ c.args.es.now c.loop-e.e-index c.e-item.result _ _ _ _ _ c.in-Ok.found.symbol (omega arith) c.e-item.is c.in-Ok-add_valued.ensures.steps c.in-Ok-add_valued.ensures.symbols c.loop-e.invariant.same c.in-Ok.ensures.names before later c.loop-e.invariant.front c.in-Ok.ensures.flat;
      same = c.in-Ok.ensures.scope ∙ c.loop-e.invariant.same;
      names = extends-then c.args.names.now c.loop-e.names c.value.new.names c.loop-e.invariant.names c.in-Ok.ensures.names;
      later = omega arith;
    }

pub values::each-returns-in-Err : goal.values::each-returns-in-Err
values::each-returns-in-Err t c = record { flat = tt; scope = tt; names = extends-then c.args.names.now c.loop-e.names c.value.new.names c.loop-e.invariant.names c.value.ensures.names; later = omega (arith, c.loop-e.invariant.later, c.value.ensures.later) }

pub values::each-returns-in-Err-add_valued : goal.values::each-returns-in-Err-add_valued
values::each-returns-in-Err-add_valued t c = record { flat = tt; scope = tt; names = extends-then c.args.names.now c.loop-e.names c.value.new.names c.loop-e.invariant.names c.value.ensures.names; later = omega (arith, c.loop-e.invariant.later, c.value.ensures.later) }

pub values::each-returns : goal.values::each-returns
values::each-returns t c =
    record {
      flat = front-end _ _ _ _ _ _ c.args.es.now c.loop-e.e-index _ _ (omega arith) c.loop-e.invariant.front;
      scope = c.loop-e.invariant.same;
      names = c.loop-e.invariant.names;
      later = c.loop-e.invariant.later;
    }

pub values::each-value-requires : goal.values::each-value-requires
values::each-value-requires t c =
    (let k = item-weight c.args.es.now c.loop-e.e-index c.e-item.result (omega arith) c.e-item.is in let r = value_rank-small (tree_of c.e-item.result) in omega (arith, k, r, c.decreases), tt)

pub values::statements-loop-st-init : goal.values::statements-loop-st-init
values::statements-loop-st-init t c =
    record {
      led = led-start _ _ _ _ _ _ c.new-steps.ensures.items;
      extends = extends-itself c.args.scope.now.items;
      names = extends-itself c.args.names.now;
      later = omega arith;
    }

pub values::statements-loop-st-preserved : goal.values::statements-loop-st-preserved
values::statements-loop-st-preserved t c =
    let later : c.loop-st.next ≤ c.statement.new.next = c.in-Ok.ensures.later in
    let before : c.args.next.now ≤ c.loop-st.next = c.loop-st.invariant.later in
    record {
      led = led-step _ _ _ _ _ _ _ _ _ _ c.args.sts.now c.loop-st.st-index c.st-item.result _ _ _ (omega arith) c.st-item.is c.in-Ok-add_steps.ensures c.in-Ok.ensures.names later c.loop-st.invariant.led c.in-Ok.ensures.flat;
      extends = extends-then c.args.scope.now.items c.loop-st.scope.items c.statement.new.scope.items c.loop-st.invariant.extends c.in-Ok.ensures.scope;
      names = extends-then c.args.names.now c.loop-st.names c.statement.new.names c.loop-st.invariant.names c.in-Ok.ensures.names;
      later = omega arith;
    }

pub values::statements-returns-in-Err : goal.values::statements-returns-in-Err
values::statements-returns-in-Err t c = record { flat = tt; scope = tt; names = extends-then c.args.names.now c.loop-st.names c.statement.new.names c.loop-st.invariant.names c.statement.ensures.names; later = omega (arith, c.loop-st.invariant.later, c.statement.ensures.later) }

pub values::statements-returns-in-Err-add_steps : goal.values::statements-returns-in-Err-add_steps
values::statements-returns-in-Err-add_steps t c = record { flat = tt; scope = tt; names = extends-then c.args.names.now c.loop-st.names c.statement.new.names c.loop-st.invariant.names c.statement.ensures.names; later = omega (arith, c.loop-st.invariant.later, c.statement.ensures.later) }

pub values::statements-returns : goal.values::statements-returns
values::statements-returns t c =
    record {
      flat = led-end _ _ _ _ _ _ _ c.args.sts.now c.loop-st.st-index _ (omega arith) c.loop-st.invariant.led;
      scope = c.loop-st.invariant.extends;
      names = c.loop-st.invariant.names;
      later = c.loop-st.invariant.later;
    }

pub values::statements-statement-requires : goal.values::statements-statement-requires
values::statements-statement-requires t c =
    (let k = item-weight_statement c.args.sts.now c.loop-st.st-index c.st-item.result (omega arith) c.st-item.is in omega (arith, k, c.decreases), tt)

pub values::statement-returns-in-Err : goal.values::statement-returns-in-Err
values::statement-returns-in-Err t c = record { flat = tt; scope = tt; names = c.value.ensures.names; later = c.value.ensures.later }

pub values::statement-returns-in-Err-bind : goal.values::statement-returns-in-Err-bind
values::statement-returns-in-Err-bind t c = record { flat = tt; scope = tt; names = c.value.ensures.names; later = c.value.ensures.later }

pub values::statement-returns-in-Ok-bind : goal.values::statement-returns-in-Ok-bind
values::statement-returns-in-Ok-bind t c =
    record {
      flat = statement-as _ _ _ _ _ _ _ _ _ _ _ (ap statement_tree c.in-Let.is) (c.in-Ok-bind.ensures.bound ∙ ap (λ l. bound (pattern_tree c.in-Let.pattern) (view c.in-Ok.found.symbol) (scope_of l [])) c.in-Ok.ensures.scope) (let-flat _ _ _ _ _ _ c.in-Let.field-2 (pattern_tree c.in-Let.pattern) (tree_of c.in-Let.e) _ _ c.in-Ok.ensures.later c.in-Ok.ensures.flat);
      scope = subst (λ l. Extends l c.bind.new.scope.items) c.in-Ok.ensures.scope c.in-Ok-bind.ensures.extends;
      names = c.value.ensures.names;
      later = c.value.ensures.later;
    }

pub values::statement-returns-in-Store : goal.values::statement-returns-in-Store
values::statement-returns-in-Store t c =
    record {
      flat = mapped c.store.result (λ x h. statement-as _ _ _ _ _ _ _ _ _ _ _ (ap statement_tree c.in-Store.is) refl (h c.in-Store.field-3)) c.store.ensures.flat;
      scope = c.store.ensures.scope;
      names = c.store.ensures.names;
      later = c.store.ensures.later;
    }

pub values::statement-value-requires : goal.values::statement-value-requires
values::statement-value-requires t c =
    (let k : weight_statement (statement_tree c.args.st.now) ≡ 1 + weight (tree_of c.in-Let.e) = ap (λ st. weight_statement (statement_tree st)) c.in-Let.is in let r = value_rank-small (tree_of c.in-Let.e) in omega (arith, k, r, c.decreases), tt)

pub values::statement-store-requires : goal.values::statement-store-requires
values::statement-store-requires t c =
    (let k : weight_statement (statement_tree c.args.st.now) ≡ 1 + (weight (tree_of c.in-Store.a) + weight (tree_of c.in-Store.e)) = ap (λ st. weight_statement (statement_tree st)) c.in-Store.is in omega (arith, k, c.decreases), tt)

pub values::store-returns-in-Err : goal.values::store-returns-in-Err
values::store-returns-in-Err t c = record { flat = tt; scope = tt; names = c.value.ensures.names; later = c.value.ensures.later }

pub values::store-returns-in-Err-value : goal.values::store-returns-in-Err-value
values::store-returns-in-Err-value t c = record { flat = tt; scope = tt; names = extends-then c.args.names.now c.value.new.names c.value-2.new.names c.value.ensures.names c.value-2.ensures.names; later = omega (arith, c.value.ensures.later, c.value-2.ensures.later) }

pub values::store-returns : goal.values::store-returns
values::store-returns t c =
    record {
      flat = mapped c.store_steps.result (λ r h s. statement-as _ _ _ _ _ _ _ _ _ _ _ refl (ap (λ l. scope_of l []) (c.in-Ok-value.ensures.scope ∙ c.in-Ok.ensures.scope)) (h _ _ _ _ _ _ _ _ s _ _ c.in-Ok-value.ensures.names c.in-Ok.ensures.later c.in-Ok-value.ensures.later c.in-Ok.ensures.flat (value-in _ _ _ _ _ _ _ _ _ _ c.in-Ok.ensures.scope c.in-Ok-value.ensures.flat))) c.store_steps.ensures;
      scope = held c.store_steps.result (extends-same c.args.scope.now.items c.value-2.new.scope.items (c.in-Ok-value.ensures.scope ∙ c.in-Ok.ensures.scope));
      names = extends-then c.args.names.now c.value.new.names c.value-2.new.names c.value.ensures.names c.value-2.ensures.names;
      later = omega (arith, c.value.ensures.later, c.value-2.ensures.later);
    }

pub values::store-value-requires : goal.values::store-value-requires
values::store-value-requires t c =
    (let r = value_rank-small (tree_of c.args.a.now) in omega (arith, r, c.decreases), tt)

pub values::store-value-requires-2 : goal.values::store-value-requires-2
values::store-value-requires-2 t c =
    (let r = value_rank-small (tree_of c.args.e.now) in omega (arith, r, c.decreases), tt)

pub endings::condition-returns-in-Paren : goal.endings::condition-returns-in-Paren
endings::condition-returns-in-Paren t c = record { flat = mapped c.condition.result (λ x h. test-tree _ _ _ _ _ _ _ _ _ _ _ _ c.in-Paren.ensures.1 (paren-test-flat _ _ _ _ _ _ _ _ _ _ _ _ h)) c.condition.ensures.flat; scope = c.condition.ensures.scope; names = c.condition.ensures.names; later = c.condition.ensures.later }

pub endings::condition-returns-in-Compare : goal.endings::condition-returns-in-Compare
endings::condition-returns-in-Compare t c = record { flat = mapped c.compare.result (λ x h. test-tree _ _ _ _ _ _ _ _ _ _ _ _ c.in-Compare.ensures.3 (h c.in-Compare.ensures.0 c.in-Compare.ensures.1 c.in-Compare.ensures.2)) c.compare.ensures.flat; scope = c.compare.ensures.scope; names = c.compare.ensures.names; later = c.compare.ensures.later }

pub endings::condition-returns-in-Truth : goal.endings::condition-returns-in-Truth
endings::condition-returns-in-Truth t c = record { flat = c.truth.ensures.flat c.in-Truth.ensures.1; scope = c.truth.ensures.scope; names = c.truth.ensures.names; later = c.truth.ensures.later }

pub endings::condition-returns-in-Ok-clause-flat : goal.endings::condition-returns-in-Ok-clause-flat
endings::condition-returns-in-Ok-clause-flat t c = test-tree _ _ _ _ _ _ _ _ _ _ _ _ c.in-Negate.ensures.1 (negate-test-flat _ _ _ _ _ _ _ _ _ c.in-Ok.found.cmp _ _ _ (λ i j. ap (λ k. compares k i j) c.negated.ensures ∙ negated_compares c.in-Ok.found.cmp i j) c.in-Ok.ensures.flat)

pub endings::condition-condition-requires : goal.endings::condition-condition-requires
endings::condition-condition-requires t c = (let w : weight (tree_of c.args.e.now) ≡ 1 + weight (tree_of c.in-Paren.a.now) = ap (λ t. weight t) c.in-Paren.ensures.1 in let r : condition_rank (tree_of c.in-Paren.a.now) < 6 = condition_rank-small (tree_of c.in-Paren.a.now) in omega (arith, w, r, c.decreases), tt)

pub endings::condition-condition-requires-in-Negate : goal.endings::condition-condition-requires-in-Negate
endings::condition-condition-requires-in-Negate t c = (let w : weight (tree_of c.args.e.now) ≡ 1 + weight (tree_of c.in-Negate.a.now) = ap (λ t. weight t) c.in-Negate.ensures.1 in let r : condition_rank (tree_of c.in-Negate.a.now) < 6 = condition_rank-small (tree_of c.in-Negate.a.now) in omega (arith, w, r, c.decreases), tt)

pub endings::condition-compare-requires : goal.endings::condition-compare-requires
endings::condition-compare-requires t c = (let w : weight (tree_of c.args.e.now) ≡ 1 + (weight (tree_of c.in-Compare.a.now) + weight (tree_of c.in-Compare.b.now)) = ap (λ t. weight t) c.in-Compare.ensures.3 in omega (arith, w, c.decreases), tt)

pub endings::condition-truth-requires : goal.endings::condition-truth-requires
endings::condition-truth-requires t c = (omega (arith, truth-below (tree_of c.args.e.now) c.in-Truth.ensures.1, c.decreases), tt)

pub endings::compare-returns-in-Err : goal.endings::compare-returns-in-Err
endings::compare-returns-in-Err t c = record { flat = tt; scope = tt; names = c.value.ensures.names; later = c.value.ensures.later }

pub endings::compare-returns-in-Err-value : goal.endings::compare-returns-in-Err-value
endings::compare-returns-in-Err-value t c = record { flat = tt; scope = tt; names = extends-then c.args.names.now c.value.new.names c.value-2.new.names c.value.ensures.names c.value-2.ensures.names; later = omega (arith, c.value.ensures.later, c.value-2.ensures.later) }

pub endings::compare-returns : goal.endings::compare-returns
endings::compare-returns t c =
    record {
      flat = mapped c.compared.result (λ r h s op found. h _ _ _ _ _ _ _ _ s op _ _ found c.in-Ok-value.ensures.names c.in-Ok.ensures.later c.in-Ok-value.ensures.later c.in-Ok.ensures.flat (value-in _ _ _ _ _ _ _ _ _ _ c.in-Ok.ensures.scope c.in-Ok-value.ensures.flat)) c.compared.ensures;
      scope = held c.compared.result (c.in-Ok-value.ensures.scope ∙ c.in-Ok.ensures.scope);
      names = extends-then c.args.names.now c.value.new.names c.value-2.new.names c.value.ensures.names c.value-2.ensures.names;
      later = omega (arith, c.value.ensures.later, c.value-2.ensures.later);
    }

pub endings::compare-value-requires : goal.endings::compare-value-requires
endings::compare-value-requires t c = (let r : value_rank (tree_of c.args.a.now) < 6 = value_rank-small (tree_of c.args.a.now) in omega (arith, r, c.decreases), tt)

pub endings::compare-value-requires-2 : goal.endings::compare-value-requires-2
endings::compare-value-requires-2 t c = (let r : value_rank (tree_of c.args.b.now) < 6 = value_rank-small (tree_of c.args.b.now) in omega (arith, r, c.decreases), tt)

pub endings::truth-returns-in-Err : goal.endings::truth-returns-in-Err
endings::truth-returns-in-Err t c = record { flat = λ _. tt; scope = tt; names = c.value.ensures.names; later = c.value.ensures.later }

pub endings::truth-returns : goal.endings::truth-returns
endings::truth-returns t c =
    record {
      flat = λ other. test-as _ _ _ _ _ _ _ _ _ _ _ _ c.truth_in-left.ensures (truth-test-flat _ _ _ _ _ _ _ _ _ other c.in-Ok.ensures.flat);
      scope = c.in-Ok.ensures.scope;
      names = c.value.ensures.names;
      later = c.value.ensures.later;
    }

pub endings::truth-value-requires : goal.endings::truth-value-requires
endings::truth-value-requires t c = (omega (arith, c.decreases), tt)

pub endings::ending-returns-in-Paren : goal.endings::ending-returns-in-Paren
endings::ending-returns-in-Paren t c = record { flat = mapped c.ending.result (λ x h. end-tree _ _ _ _ _ _ _ _ _ _ c.in-Paren.ensures.1 (paren-end-flat _ _ _ _ _ _ _ _ _ _ h)) c.ending.ensures.flat; scope = c.ending.ensures.scope; names = c.ending.ensures.names; later = c.ending.ensures.later }

pub endings::ending-returns-in-Given : goal.endings::ending-returns-in-Given
endings::ending-returns-in-Given t c = record { flat = c.given.ensures.flat c.in-Given.ensures; scope = c.given.ensures.scope; names = c.given.ensures.names; later = c.given.ensures.later }

pub endings::ending-returns-in-Decided : goal.endings::ending-returns-in-Decided
endings::ending-returns-in-Decided t c = record { flat = c.decided.ensures.flat c.in-Decided.ensures; scope = c.decided.ensures.scope; names = c.decided.ensures.names; later = c.decided.ensures.later }

pub endings::ending-returns-in-Both : goal.endings::ending-returns-in-Both
endings::ending-returns-in-Both t c = record { flat = mapped c.both.result (λ x h. end-tree _ _ _ _ _ _ _ _ _ _ c.in-Both.ensures.1 (h c.in-Both.ensures.0)) c.both.ensures.flat; scope = c.both.ensures.scope; names = c.both.ensures.names; later = c.both.ensures.later }

pub endings::ending-returns-in-Either : goal.endings::ending-returns-in-Either
endings::ending-returns-in-Either t c = record { flat = mapped c.either.result (λ x h. end-tree _ _ _ _ _ _ _ _ _ _ c.in-Either.ensures.1 (h c.in-Either.ensures.0)) c.either.ensures.flat; scope = c.either.ensures.scope; names = c.either.ensures.names; later = c.either.ensures.later }

pub endings::ending-returns-in-Call : goal.endings::ending-returns-in-Call
endings::ending-returns-in-Call t c = record { flat = mapped c.call.result (λ x h. end-tree _ _ _ _ _ _ _ _ _ _ c.in-Call.ensures.1 (h c.in-Call.ensures.0)) c.call.ensures.flat; scope = c.call.ensures.scope; names = c.call.ensures.names; later = c.call.ensures.later }

pub endings::ending-returns-in-Raise : goal.endings::ending-returns-in-Raise
endings::ending-returns-in-Raise t c = record { flat = mapped c.raise.result (λ x h. end-tree _ _ _ _ _ _ _ _ _ _ c.in-Raise.ensures.1 (h c.in-Raise.ensures.0)) c.raise.ensures.flat; scope = c.raise.ensures.scope; names = c.raise.ensures.names; later = c.raise.ensures.later }

pub endings::ending-returns-in-Choose : goal.endings::ending-returns-in-Choose
endings::ending-returns-in-Choose t c = record { flat = mapped c.choose.result (λ x h. end-tree _ _ _ _ _ _ _ _ _ _ c.in-Choose.ensures.1 (h c.in-Choose.ensures.0)) c.choose.ensures.flat; scope = c.choose.ensures.scope; names = c.choose.ensures.names; later = c.choose.ensures.later }

pub endings::ending-returns-in-Try : goal.endings::ending-returns-in-Try
endings::ending-returns-in-Try t c = record { flat = mapped c.try_.result (λ x h. end-tree _ _ _ _ _ _ _ _ _ _ c.in-Try.ensures.1 (h c.in-Try.ensures.0)) c.try_.ensures.flat; scope = c.try_.ensures.scope; names = c.try_.ensures.names; later = c.try_.ensures.later }

pub endings::ending-returns-in-Block : goal.endings::ending-returns-in-Block
endings::ending-returns-in-Block t c = record { flat = mapped c.ending_block.result (λ x h. end-tree _ _ _ _ _ _ _ _ _ _ c.in-Block.ensures.1 (h c.in-Block.ensures.0)) c.ending_block.ensures.flat; scope = c.ending_block.ensures.scope; names = c.ending_block.ensures.names; later = c.ending_block.ensures.later }

pub endings::ending-ending-requires : goal.endings::ending-ending-requires
endings::ending-ending-requires t c = (let w : weight (tree_of c.args.e.now) ≡ 1 + weight (tree_of c.in-Paren.a.now) = ap (λ t. weight t) c.in-Paren.ensures.1 in let r : ending_rank (tree_of c.in-Paren.a.now) < 4 = ending_rank-small (tree_of c.in-Paren.a.now) in omega (arith, w, r, c.decreases), tt)

pub endings::ending-given-requires : goal.endings::ending-given-requires
endings::ending-given-requires t c = (omega (arith, given-below (tree_of c.args.e.now) c.in-Given.ensures, c.decreases), tt)

pub endings::ending-decided-requires : goal.endings::ending-decided-requires
endings::ending-decided-requires t c = (omega (arith, decided-below (tree_of c.args.e.now) c.in-Decided.ensures, c.decreases), tt)

pub endings::ending-both-requires : goal.endings::ending-both-requires
endings::ending-both-requires t c = (let w : weight (tree_of c.args.e.now) ≡ 1 + (weight (tree_of c.in-Both.a.now) + weight (tree_of c.in-Both.b.now)) = ap (λ t. weight t) c.in-Both.ensures.1 in omega (arith, w, c.decreases), tt)

pub endings::ending-either-requires : goal.endings::ending-either-requires
endings::ending-either-requires t c = (let w : weight (tree_of c.args.e.now) ≡ 1 + (weight (tree_of c.in-Either.a.now) + weight (tree_of c.in-Either.b.now)) = ap (λ t. weight t) c.in-Either.ensures.1 in omega (arith, w, c.decreases), tt)

pub endings::ending-call-requires : goal.endings::ending-call-requires
endings::ending-call-requires t c = (let w : weight (tree_of c.args.e.now) ≡ 1 + weight_all (list_trees c.in-Call.es.now) = ap (λ t. weight t) c.in-Call.ensures.1 in omega (arith, w, c.decreases), tt)

pub endings::ending-raise-requires : goal.endings::ending-raise-requires
endings::ending-raise-requires t c = (let w : weight (tree_of c.args.e.now) ≡ 1 + weight_all (list_trees c.in-Raise.es.now) = ap (λ t. weight t) c.in-Raise.ensures.1 in omega (arith, w, c.decreases), tt)

pub endings::ending-choose-requires : goal.endings::ending-choose-requires
endings::ending-choose-requires t c = (let w : weight (tree_of c.args.e.now) ≡ 1 + (weight (tree_of c.in-Choose.c.now) + (weight (tree_of c.in-Choose.a.now) + weight (tree_of c.in-Choose.b.now))) = ap (λ t. weight t) c.in-Choose.ensures.1 in omega (arith, w, c.decreases), tt)

pub endings::ending-try_-requires : goal.endings::ending-try_-requires
endings::ending-try_-requires t c = (let w : weight (tree_of c.args.e.now) ≡ 1 + (weight (tree_of c.in-Try.a.now) + weight (tree_of c.in-Try.h.now)) = ap (λ t. weight t) c.in-Try.ensures.1 in omega (arith, w, c.decreases), tt)

pub endings::ending-ending_block-requires : goal.endings::ending-ending_block-requires
endings::ending-ending_block-requires t c = (let w : weight (tree_of c.args.e.now) ≡ 1 + (weight_statements (list_statements c.in-Block.sts.now) + weight (tree_of c.in-Block.a.now)) = ap (λ t. weight t) c.in-Block.ensures.1 in omega (arith, w, c.decreases), tt)

pub endings::given-returns-in-Err : goal.endings::given-returns-in-Err
endings::given-returns-in-Err t c = record { flat = λ _. tt; scope = tt; names = c.value.ensures.names; later = c.value.ensures.later }

pub endings::given-returns : goal.endings::given-returns
endings::given-returns t c =
    record {
      flat = λ given. mapped c.given_code.result (λ r h. h _ _ _ _ _ _ _ given c.in-Ok.ensures.flat) c.given_code.ensures;
      scope = held c.given_code.result c.in-Ok.ensures.scope;
      names = c.value.ensures.names;
      later = c.value.ensures.later;
    }

pub endings::given-value-requires : goal.endings::given-value-requires
endings::given-value-requires t c = (omega (arith, c.decreases), tt)

pub endings::decided-returns-in-Err : goal.endings::decided-returns-in-Err
endings::decided-returns-in-Err t c = record { flat = λ _. tt; scope = tt; names = c.condition.ensures.names; later = c.condition.ensures.later }

pub endings::decided-returns : goal.endings::decided-returns
endings::decided-returns t c =
    record {
      flat = λ comparison. mapped c.decided_code.result (λ r h. h _ _ _ _ _ _ _ comparison c.in-Ok.ensures.flat) c.decided_code.ensures;
      scope = held c.decided_code.result c.in-Ok.ensures.scope;
      names = c.condition.ensures.names;
      later = c.condition.ensures.later;
    }

pub endings::decided-condition-requires : goal.endings::decided-condition-requires
endings::decided-condition-requires t c = (omega (arith, c.decreases), tt)

pub endings::both-returns-in-Err : goal.endings::both-returns-in-Err
endings::both-returns-in-Err t c = record { flat = tt; scope = tt; names = c.condition.ensures.names; later = c.condition.ensures.later }

pub endings::both-returns-in-Err-ending : goal.endings::both-returns-in-Err-ending
endings::both-returns-in-Err-ending t c = record { flat = tt; scope = tt; names = extends-then c.args.names.now c.condition.new.names c.ending.new.names c.condition.ensures.names c.ending.ensures.names; later = omega (arith, c.condition.ensures.later, c.ending.ensures.later) }

pub endings::both-returns : goal.endings::both-returns
endings::both-returns t c =
    record {
      flat = mapped c.both_code.result (λ r h s. h _ _ _ _ _ _ _ _ s _ _ c.in-Ok-ending.ensures.names c.in-Ok.ensures.later c.in-Ok.ensures.flat (end-in _ _ _ _ _ _ _ _ _ _ c.in-Ok.ensures.scope c.in-Ok-ending.ensures.flat)) c.both_code.ensures;
      scope = held c.both_code.result (c.in-Ok-ending.ensures.scope ∙ c.in-Ok.ensures.scope);
      names = extends-then c.args.names.now c.condition.new.names c.ending.new.names c.condition.ensures.names c.ending.ensures.names;
      later = omega (arith, c.condition.ensures.later, c.ending.ensures.later);
    }

pub endings::both-condition-requires : goal.endings::both-condition-requires
endings::both-condition-requires t c = (let r : condition_rank (tree_of c.args.a.now) < 6 = condition_rank-small (tree_of c.args.a.now) in omega (arith, r, c.decreases), tt)

pub endings::both-ending-requires : goal.endings::both-ending-requires
endings::both-ending-requires t c = (let r : ending_rank (tree_of c.args.b.now) < 4 = ending_rank-small (tree_of c.args.b.now) in omega (arith, r, c.decreases), tt)

pub endings::either-returns-in-Err : goal.endings::either-returns-in-Err
endings::either-returns-in-Err t c = record { flat = tt; scope = tt; names = c.condition.ensures.names; later = c.condition.ensures.later }

pub endings::either-returns-in-Err-ending : goal.endings::either-returns-in-Err-ending
endings::either-returns-in-Err-ending t c = record { flat = tt; scope = tt; names = extends-then c.args.names.now c.condition.new.names c.ending.new.names c.condition.ensures.names c.ending.ensures.names; later = omega (arith, c.condition.ensures.later, c.ending.ensures.later) }

pub endings::either-returns : goal.endings::either-returns
endings::either-returns t c =
    record {
      flat = mapped c.either_code.result (λ r h s. h _ _ _ _ _ _ _ _ s _ _ c.in-Ok-ending.ensures.names c.in-Ok.ensures.later c.in-Ok.ensures.flat (end-in _ _ _ _ _ _ _ _ _ _ c.in-Ok.ensures.scope c.in-Ok-ending.ensures.flat)) c.either_code.ensures;
      scope = held c.either_code.result (c.in-Ok-ending.ensures.scope ∙ c.in-Ok.ensures.scope);
      names = extends-then c.args.names.now c.condition.new.names c.ending.new.names c.condition.ensures.names c.ending.ensures.names;
      later = omega (arith, c.condition.ensures.later, c.ending.ensures.later);
    }

pub endings::either-condition-requires : goal.endings::either-condition-requires
endings::either-condition-requires t c = (let r : condition_rank (tree_of c.args.a.now) < 6 = condition_rank-small (tree_of c.args.a.now) in omega (arith, r, c.decreases), tt)

pub endings::either-ending-requires : goal.endings::either-ending-requires
endings::either-ending-requires t c = (let r : ending_rank (tree_of c.args.b.now) < 4 = ending_rank-small (tree_of c.args.b.now) in omega (arith, r, c.decreases), tt)

pub endings::choose-returns-in-Err : goal.endings::choose-returns-in-Err
endings::choose-returns-in-Err t c = record { flat = tt; scope = tt; names = c.condition.ensures.names; later = c.condition.ensures.later }

pub endings::choose-returns-in-Err-ending : goal.endings::choose-returns-in-Err-ending
endings::choose-returns-in-Err-ending t c = record { flat = tt; scope = tt; names = extends-then c.args.names.now c.condition.new.names c.ending.new.names c.condition.ensures.names c.ending.ensures.names; later = omega (arith, c.condition.ensures.later, c.ending.ensures.later) }

pub endings::choose-returns-in-Err-ending-2 : goal.endings::choose-returns-in-Err-ending-2
endings::choose-returns-in-Err-ending-2 t c = record { flat = tt; scope = tt; names = extends-then c.args.names.now c.ending.new.names c.ending-2.new.names (extends-then c.args.names.now c.condition.new.names c.ending.new.names c.condition.ensures.names c.ending.ensures.names) c.ending-2.ensures.names; later = omega (arith, c.condition.ensures.later, c.ending.ensures.later, c.ending-2.ensures.later) }

pub endings::choose-returns : goal.endings::choose-returns
endings::choose-returns t c =
    record {
      flat = mapped c.chosen_code.result (λ r h s. h _ _ _ _ _ _ _ _ _ _ s _ _ _ c.in-Ok-ending.ensures.names c.in-Ok-ending-2.ensures.names c.in-Ok.ensures.later c.in-Ok-ending.ensures.later c.in-Ok.ensures.flat (end-in _ _ _ _ _ _ _ _ _ _ c.in-Ok.ensures.scope c.in-Ok-ending.ensures.flat) (end-in _ _ _ _ _ _ _ _ _ _ (c.in-Ok-ending.ensures.scope ∙ c.in-Ok.ensures.scope) c.in-Ok-ending-2.ensures.flat)) c.chosen_code.ensures;
      scope = held c.chosen_code.result (c.in-Ok-ending-2.ensures.scope ∙ c.in-Ok-ending.ensures.scope ∙ c.in-Ok.ensures.scope);
      names = extends-then c.args.names.now c.ending.new.names c.ending-2.new.names (extends-then c.args.names.now c.condition.new.names c.ending.new.names c.condition.ensures.names c.ending.ensures.names) c.ending-2.ensures.names;
      later = omega (arith, c.condition.ensures.later, c.ending.ensures.later, c.ending-2.ensures.later);
    }

pub endings::choose-condition-requires : goal.endings::choose-condition-requires
endings::choose-condition-requires t c = (let r : condition_rank (tree_of c.args.c.now) < 6 = condition_rank-small (tree_of c.args.c.now) in omega (arith, r, c.decreases), tt)

pub endings::choose-ending-requires : goal.endings::choose-ending-requires
endings::choose-ending-requires t c = (let r : ending_rank (tree_of c.args.a.now) < 4 = ending_rank-small (tree_of c.args.a.now) in omega (arith, r, c.decreases), tt)

pub endings::choose-ending-requires-2 : goal.endings::choose-ending-requires-2
endings::choose-ending-requires-2 t c = (let r : ending_rank (tree_of c.args.b.now) < 4 = ending_rank-small (tree_of c.args.b.now) in omega (arith, r, c.decreases), tt)

pub endings::try_-returns-in-Err : goal.endings::try_-returns-in-Err
endings::try_-returns-in-Err t c = record { flat = tt; scope = tt; names = c.ending.ensures.names; later = c.ending.ensures.later }

pub endings::try_-returns-in-Err-caught : goal.endings::try_-returns-in-Err-caught
endings::try_-returns-in-Err-caught t c = record { flat = tt; scope = tt; names = c.ending.ensures.names; later = omega (arith, c.ending.ensures.later, c.caught.ensures.later) }

pub endings::try_-returns-in-Err-ending : goal.endings::try_-returns-in-Err-ending
endings::try_-returns-in-Err-ending t c = record { flat = tt; scope = tt; names = extends-then c.args.names.now c.ending.new.names c.ending-2.new.names c.ending.ensures.names c.ending-2.ensures.names; later = omega (arith, c.ending.ensures.later, c.caught.ensures.later, c.ending-2.ensures.later) }

pub endings::try_-returns : goal.endings::try_-returns
endings::try_-returns t c =
    record {
      flat = mapped c.handled.result (λ r h s. end-as _ _ _ _ _ _ _ _ _ _ h.1
          (try-flat (whole_in c.args.t.now) _ _ _ _ c.ending.new.next c.caught.new.next _ (scope_of c.args.scope.now.items []) (scope_of c.caught.new.scope.items []) s _ c.args.x.now (list_patterns c.args.ps.now) _ c.in-Ok.found.code c.in-Ok-ending.found.code r.code _ _ c.in-Ok-caught.found.number (all_fresh c.ending.new.next (raised_or_none (whole_in c.args.t.now) c.in-Ok-caught.found.number)) h.0.0 h.0.1 h.0.2 h.0.3 c.in-Ok-caught.ensures.number refl c.in-Ok-caught.ensures.next
          (c.in-Ok-caught.ensures.bound ∙ ap (λ l. all_bound (list_patterns c.args.ps.now) (all_fresh c.ending.new.next (raised_or_none (whole_in c.args.t.now) c.in-Ok-caught.found.number)) (scope_of l [])) c.in-Ok.ensures.scope) (h.0.4 ∙ c.in-Ok-caught.ensures.vars) c.in-Ok-ending.ensures.names c.in-Ok.ensures.later c.in-Ok.ensures.flat c.in-Ok-ending.ensures.flat)) c.handled.ensures;
      scope = held c.handled.result (restored c.args.scope.now.items c.caught.new.scope.items c.truncate.new.self.items c.len-outside.result (c.truncate.ensures.items ∙ ap (λ l. take c.len-outside.result l) c.in-Ok-ending.ensures.scope) (c.len-outside.ensures ∙ c.ending.new.scope.ok.0 ∙ ap (λ l. length l) c.in-Ok.ensures.scope) (subst (λ l. Extends l c.caught.new.scope.items) c.in-Ok.ensures.scope c.caught.ensures.extends));
      names = extends-then c.args.names.now c.ending.new.names c.ending-2.new.names c.ending.ensures.names c.ending-2.ensures.names;
      later = omega (arith, c.ending.ensures.later, c.caught.ensures.later, c.ending-2.ensures.later);
    }

pub endings::try_-ending-requires : goal.endings::try_-ending-requires
endings::try_-ending-requires t c = (let r : ending_rank (tree_of c.args.a.now) < 4 = ending_rank-small (tree_of c.args.a.now) in omega (arith, r, c.decreases), tt)

pub endings::try_-ending-requires-2 : goal.endings::try_-ending-requires-2
endings::try_-ending-requires-2 t c = (let r : ending_rank (tree_of c.args.h.now) < 4 = ending_rank-small (tree_of c.args.h.now) in omega (arith, r, c.decreases), tt)

pub endings::call-returns-in-Err : goal.endings::call-returns-in-Err
endings::call-returns-in-Err t c = record { flat = tt; scope = tt; names = c.each.ensures.names; later = c.each.ensures.later }

pub endings::call-returns : goal.endings::call-returns
endings::call-returns t c =
    record {
      flat = mapped c.calling.result (λ r h s. h _ _ _ _ s _ c.in-Ok.ensures.flat) c.calling.ensures.flat;
      scope = held c.calling.result c.in-Ok.ensures.scope;
      names = extends-then c.args.names.now c.each.new.names c.calling.new.names c.each.ensures.names c.calling.ensures.names;
      later = c.each.ensures.later;
    }

pub endings::call-each-requires : goal.endings::call-each-requires
endings::call-each-requires t c = (omega (arith, c.decreases), tt)

pub endings::raise-returns-in-Err : goal.endings::raise-returns-in-Err
endings::raise-returns-in-Err t c = record { flat = tt; scope = tt; names = c.each.ensures.names; later = c.each.ensures.later }

pub endings::raise-returns : goal.endings::raise-returns
endings::raise-returns t c =
    record {
      flat = mapped c.raising.result (λ r h s. h _ _ _ _ _ s _ c.in-Ok.ensures.flat) c.raising.ensures;
      scope = held c.raising.result c.in-Ok.ensures.scope;
      names = c.each.ensures.names;
      later = c.each.ensures.later;
    }

pub endings::raise-each-requires : goal.endings::raise-each-requires
endings::raise-each-requires t c = (omega (arith, c.decreases), tt)

pub endings::ending_block-returns-in-Err : goal.endings::ending_block-returns-in-Err
endings::ending_block-returns-in-Err t c = record { flat = tt; scope = tt; names = c.statements.ensures.names; later = c.statements.ensures.later }

pub endings::ending_block-returns-in-Err-ending : goal.endings::ending_block-returns-in-Err-ending
endings::ending_block-returns-in-Err-ending t c = record { flat = tt; scope = tt; names = extends-then c.args.names.now c.statements.new.names c.ending.new.names c.statements.ensures.names c.ending.ensures.names; later = omega (arith, c.statements.ensures.later, c.ending.ensures.later) }

pub endings::ending_block-returns : goal.endings::ending_block-returns
endings::ending_block-returns t c =
    record {
      flat = mapped c.ended.result (λ r h s. end-as _ _ _ _ _ _ _ _ _ _ (ap (λ o. option_map view o) h.1) (block-end-flat _ _ _ _ _ _ _ _ _ s _ _ _ _ _ _ c.in-Ok-ending.ensures.names h.0 c.in-Ok.ensures.flat c.in-Ok-ending.ensures.flat)) c.ended.ensures;
      scope = held c.ended.result (restored c.args.scope.now.items c.statements.new.scope.items c.truncate.new.self.items c.len-outside.result (c.truncate.ensures.items ∙ ap (λ l. take c.len-outside.result l) c.in-Ok-ending.ensures.scope) (c.len-outside.ensures ∙ c.args.scope.now.ok.0) c.in-Ok.ensures.scope);
      names = extends-then c.args.names.now c.statements.new.names c.ending.new.names c.statements.ensures.names c.ending.ensures.names;
      later = omega (arith, c.statements.ensures.later, c.ending.ensures.later);
    }

pub endings::ending_block-statements-requires : goal.endings::ending_block-statements-requires
endings::ending_block-statements-requires t c = (omega (arith, c.decreases), tt)

pub endings::ending_block-ending-requires : goal.endings::ending_block-ending-requires
endings::ending_block-ending-requires t c = (let r : ending_rank (tree_of c.args.a.now) < 4 = ending_rank-small (tree_of c.args.a.now) in omega (arith, r, c.decreases), tt)
