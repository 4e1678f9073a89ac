use Rattle.std.proofs.Common.{◌∙◌, List, Option, Some, None, IfSome, sym}
use Rattle.uc_isa.specs.declared.instruction.Src.{Src}
use Rattle.uc_peep_facts.specs.Facts.{IsOneOf, known}
use Rattle.uc_peep_facts.specs.inner.Operands.{IsOther, IsSource}
use Rattle.uc_peep_facts.specs.declared.fact.Fact.{Fact}
use Rattle.uc_peep_facts.proofs.SameWords.{source-other}
use Rattle.uc_peep_facts.proofs.reread.source_of.Goals as goal

of-source : (facts : List Fact) (f : Fact) (x : Src) (o : Option Src) → IsOneOf f facts → IfSome o (IsSource f x) → IfSome o (IsOther facts x)
of-source facts f x (Some y) one h = source-other facts f x y one h
of-source facts f x None one h = h

pub returns-in-Some : goal.returns-in-Some
returns-in-Some c = of-source (known c.args.facts.now) c.in-Some.f c.args.x.now c.source_by.result (c.args.k, sym c.get.ensures ∙ c.in-Some.is) c.source_by.ensures
