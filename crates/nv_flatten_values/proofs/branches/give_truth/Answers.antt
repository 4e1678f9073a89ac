use Rattle.std.proofs.Common.{◌≡◌, ℕ, Bool, true, false, if◌then◌else◌, List, [], ◌∷◌, ◌++◌, refl, ap, ◌∙◌, rules}
use Rattle.std.specs.Prelude.{Vec}
use Rattle.std.specs.declared.alloc.Global.{Global}
use Rattle.nv_base.specs.declared.term.Atom.{Atom}
use Rattle.nv_base.specs.declared.term.Atom.TheVariants.{Lit}
use Rattle.nv_base.specs.Words.{Env, word, atom_words}
use Rattle.nv_base.specs.Running.{Running}
use Rattle.flat_ir.specs.declared.flat.Flat.TheVariants.{Give}
use Rattle.flat_ir.specs.Running.{Gives}
use Rattle.flat_ir.specs.Meaning.{Calls, does}
use Rattle.nv_flatten_values.specs.inner.Well.{GivesLiteral}
use Rattle.nv_flatten_values.proofs.branches.give_truth.Goals as goal

given-literal : (bs : Vec Atom Global) (front : List Atom) (v : ℕ) → front ≡ [] → bs.items ≡ front ++ Lit v ∷ [] → GivesLiteral (Give bs)
given-literal bs front v e h = (bs, v, refl, h ∙ ap (λ l. l ++ Lit v ∷ []) e)

pub returns-clause-literal : goal.returns-clause-literal
returns-clause-literal c = given-literal c.push.new.self _ _ c.new-words.ensures.items c.in_ok-push.ensures.items

truth-word : (b : Bool) → word (if b then 1 else 0) ≡ (if b then 1 else 0)
truth-word true = refl
truth-word false = refl

given-truth : (bs : Vec Atom Global) (front : List Atom) (v : ℕ) (b : Bool) → front ≡ [] → bs.items ≡ front ++ Lit v ∷ [] → v ≡ (if b then 1 else 0)
    → (call : Calls) (env : Env) (now : Running) → does call (Give bs) env now ≡ Gives ((if b then 1 else 0) ∷ []) now
given-truth bs front v b e h is call env now =
    ap (λ l. Gives (atom_words env l) now) (h ∙ ap (λ l. l ++ Lit v ∷ []) e) ∙ ap (λ k. Gives (word k ∷ []) now) is ∙ ap (λ k. Gives (k ∷ []) now) (truth-word b)

pub returns-clause-gives : goal.returns-clause-gives
returns-clause-gives c = given-truth c.push.new.self _ _ c.args.b c.new-words.ensures.items c.in_ok-push.ensures.items (search rules)
