use Rattle.std.proofs.Common.{◌≡◌, ◌≢◌, sym, ◌∙◌, ap, List, ℕ, ◌∷◌, codes, arith}
use Rattle.std.specs.Cmp.Lexicographic.{bytes_decides}
use Rattle.uc_asm.specs.Words.{words}
use Rattle.uc_asm.proofs.LineLemmas.{from_parts}
use Rattle.uc_asm.proofs.ItemLemmas.{branch-some, branch-none, other-none}
use Rattle.uc_asm.proofs.line.item_of.Goals as goal

pub returns-then-eq-clause-some : goal.returns-then-eq-clause-some
returns-then-eq-clause-some c =
    let kind : c.in_ok-kind.kind.now ≡ codes "br" = (bytes_decides c.in_ok-kind.kind.now c.as_slice.result.now).0 (sym c.if-eq.ensures) ∙ c.as_slice.ensures in
    branch-some c.branch-parts.result c.args.line.now c.next_part.new.self (sym c.of-parts.ensures ∙ c.in_ok-kind.ensures ∙ ap (λ (k : List ℕ). k ∷ c.next_part.new.self) kind) c.branch-parts.ensures.some

pub returns-then-eq-clause-none : goal.returns-then-eq-clause-none
returns-then-eq-clause-none c =
    let kind : c.in_ok-kind.kind.now ≡ codes "br" = (bytes_decides c.in_ok-kind.kind.now c.as_slice.result.now).0 (sym c.if-eq.ensures) ∙ c.as_slice.ensures in
    branch-none c.branch-parts.result c.args.line.now c.next_part.new.self (sym c.of-parts.ensures ∙ c.in_ok-kind.ensures ∙ ap (λ (k : List ℕ). k ∷ c.next_part.new.self) kind)
    c.in_default.ensures.none c.branch-parts.ensures.place c.branch-parts.ensures.name

pub returns-in-Some-read_instruction-clause-some : goal.returns-in-Some-read_instruction-clause-some
returns-in-Some-read_instruction-clause-some c =
    let i = c.in-Some-read_instruction.i in
    (c.in-Some-read_instruction.ensures.some.0, from_parts c.args.line.now (words i) (sym c.of-parts.ensures ∙ c.in_ok-kind.ensures ∙ c.in-Some-read_instruction.ensures.some.1))

pub returns-in-None-clause-none : goal.returns-in-None-clause-none
returns-in-None-clause-none c =
    let other : c.in_ok-kind.kind.now ≢ codes "br" = grind arith in
    other-none c.args.line.now c.in_ok-kind.kind.now c.next_part.new.self (sym c.of-parts.ensures ∙ c.in_ok-kind.ensures) other c.in_default.ensures.none c.in-None.ensures.none
