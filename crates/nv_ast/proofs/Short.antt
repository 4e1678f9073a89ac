-- The derivation of a short program.
use Rattle.std.proofs.Common.{◌≡◌, refl, ℕ}
use Rattle.nv_ast.specs.Laws.{ShortProgram}
use Rattle.nv_ast.specs.declared.tree.Op.TheVariants.{Add, Sub}
use Rattle.nv_ast.specs.Grammar.{next_decl, no_decl, group, no_fun, function, empty_params, word_type, tail_alone, operators, chain, una, post, number, variable, no_dot, no_operator, operator}

pub zero_is_not_five : ◌≡◌ {A = ℕ} 0 5 → ⊥
zero_is_not_five h = cc

pub short : ShortProgram
short = record {
  long = refl;
  spelled = next_decl (group (function empty_params word_type (tail_alone (operators
      (chain {l = 7} (chain {l = 6} (chain {l = 5} (chain {l = 4} (chain {l = 3} (chain {l = 2} (chain {l = 1} (chain {l = 0}
      (una (post number no_dot))
      (operator {op = Add} refl refl zero_is_not_five (una (post variable no_dot))
      (operator {op = Sub} refl refl zero_is_not_five (una (post number no_dot)) no_operator)))
      no_operator) no_operator) no_operator) no_operator) no_operator) no_operator) no_operator)))) no_fun) no_decl;
}
