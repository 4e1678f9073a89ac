use Rattle.std.proofs.Common.{◌≡◌, true, nat_eq, sym, ap, ◌∙◌, eqb-true}
use Rattle.std.proofs.lemmas.Bool.{false≢true}
use Rattle.uc_isa.specs.declared.instruction.Src.{Src}
use Rattle.uc_isa.specs.declared.instruction.Src.TheVariants as src
use Rattle.uc_peep.proofs.Sound.{both}
use Rattle.uc_peep.specs.Needless.{is_same_source}
use Rattle.uc_peep_facts.proofs.equal.is_same_operand.Goals as goal

same-operand : (x y : Src) → is_same_source x y ≡ true → x ≡ y
same-operand (src.A k) (src.A j) h = ap (λ n. src.A n) (eqb-true k j (both (nat_eq k j) _ h).0)
same-operand (src.A k) (src.B j) h = absurd (false≢true h)
same-operand (src.A k) (src.L j) h = absurd (false≢true h)
same-operand (src.A k) (src.LD j) h = absurd (false≢true h)
same-operand (src.B k) (src.A j) h = absurd (false≢true h)
same-operand (src.B k) (src.B j) h = ap (λ n. src.B n) (eqb-true k j (both (nat_eq k j) _ h).0)
same-operand (src.B k) (src.L j) h = absurd (false≢true h)
same-operand (src.B k) (src.LD j) h = absurd (false≢true h)
same-operand (src.L k) (src.A j) h = absurd (false≢true h)
same-operand (src.L k) (src.B j) h = absurd (false≢true h)
same-operand (src.L k) (src.L j) h = ap (λ n. src.L n) (eqb-true k j (both (nat_eq k j) _ h).0)
same-operand (src.L k) (src.LD j) h = absurd (false≢true h)
same-operand (src.LD k) (src.A j) h = absurd (false≢true h)
same-operand (src.LD k) (src.B j) h = absurd (false≢true h)
same-operand (src.LD k) (src.L j) h = absurd (false≢true h)
same-operand (src.LD k) (src.LD j) h = ap (λ n. src.LD n) (eqb-true k j (both (nat_eq k j) _ h).0)

pub returns : goal.returns
returns c = λ h. same-operand c.args.x.now c.args.y.now (sym c.is_same_source.ensures ∙ h)
