use Rattle.std.proofs.Common.{◌≡◌, ℕ, List, nat_eq, ap, sym, ◌∙◌, None, Bor}
use Rattle.std.specs.Prelude.{not}
use Rattle.std.specs.Cmp.Lexicographic.{pointwise}
use Rattle.std.specs.Map.{lookup}
use Rattle.indexmap.proofs.CallerLemmas.{insert_entry-new}
use Rattle.uc_asm.specs.declared.given.Declared.{Declared}
use Rattle.uc_asm.proofs.LabelLemmas.{lookup-more, copied-none}
use Rattle.uc_asm.proofs.labels.declare.Goals as goal

pub returns-in_ok-insert : goal.returns-in_ok-insert
returns-in_ok-insert c = λ other.
    let none : lookup (λ (key : Bor (List ℕ)). pointwise nat_eq c.args.name.now key.now) c.args.labels.now.entries ≡ None = sym c.get.ensures.value ∙ copied-none c.get.result (c.is_none.ensures ∙ ap not c.if-is_none.true) in
    let e = c.in_ok-insert.ensures.entries ∙ insert_entry-new (λ (a b : Bor (List ℕ)). pointwise nat_eq a.now b.now) c.args.labels.now c.args.name c.args.declared none in
    ap (λ (es : List (Bor (List ℕ) × Declared)). lookup (λ (key : Bor (List ℕ)). pointwise nat_eq other key.now) es) e
    ∙ lookup-more (λ (key : Bor (List ℕ)). pointwise nat_eq other key.now) c.args.labels.now.entries c.args.name c.args.declared
