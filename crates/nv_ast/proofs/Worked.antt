-- What the definitions give of short programs, by computing.
use Rattle.std.proofs.Common.{refl}
use Rattle.nv_ast.specs.Laws.{SumSizes, CaughtSizes, StoredSizes, OverlaidSizes, EmptyProgram, WideShift, EarlyCall, TwoAlternatives}

pub sum_sizes : SumSizes
sum_sizes = record { typed = refl; sized = refl; roomy = refl; wide = refl }

pub caught_sizes : CaughtSizes
caught_sizes = record { typed = refl; sized = refl; roomy = refl; wide = refl }

pub stored_sizes : StoredSizes
stored_sizes = record { typed = refl; sized = refl; roomy = refl; wide = refl }

pub overlaid_sizes : OverlaidSizes
overlaid_sizes = record { typed = refl; sized = refl; roomy = refl; wide = refl }

pub empty_program : EmptyProgram
empty_program = record { later = _; first = refl }

pub wide_shift : WideShift
wide_shift = record { later = _; first = refl }

pub early_call : EarlyCall
early_call = record { later = _; first = refl }

pub two_alternatives : TwoAlternatives
two_alternatives = record { later = _; first = refl }
