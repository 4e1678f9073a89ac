-- The code of an object that was loaded.
use Rattle.std.proofs.Common.{◌≡◌, ℕ, ◌⊎◌, inl, inr, List, ap, ◌∙◌, subst}
use Rattle.uc_isa.specs.Code.{CodeView}
use Rattle.uc_isa.specs.Lawful.{IsLawful}
use Rattle.uc_object.specs.Object.{IsObject, code_of}
use Rattle.uc_object.specs.declared.object.Object.{Object}
use Rattle.novac_words.specs.Lines.{IsUncaused}
use Rattle.novac_words.specs.declared.refusal.Refusal.{Refusal}
use Rattle.novac_machine.specs.Machine.{IsMemoryRefusedFor, RunRefuses}

pub its-params : (o : Object) (code : CodeView) (params : ℕ) → code ≡ code_of o → params ≡ code.params → params ≡ (code_of o).params
its-params o code params same p = p ∙ ap (λ (x : CodeView). x.params) same

-- a memory text that is refused for the parameters of its code
pub refused-by : (bytes text : List ℕ) (e : Refusal) (o : Object) (code : CodeView) (params : ℕ) → IsObject bytes o → code ≡ code_of o → IsLawful code.list → params ≡ code.params
    → IsUncaused e ⊎ IsMemoryRefusedFor params text e → IsUncaused e ⊎ RunRefuses bytes text e
refused-by bytes text e o code params is same lawful p (inl u) = inl u
refused-by bytes text e o code params is same lawful p (inr m) =
    inr (inr (o, is, (subst (λ (x : CodeView). IsLawful x.list) same lawful, subst (λ (n : ℕ). IsMemoryRefusedFor n text e) (its-params o code params same p) m)))
