-- Code with a handler, made of its boxes.
use Rattle.std.proofs.Common.{◌≡◌, ◌∙◌, ap, ℕ, List}
use Rattle.flat_ir.specs.declared.flat.Flat.{Flat}
use Rattle.flat_ir.specs.declared.flat.Flat.TheVariants.{Try'}
use Rattle.nv_flatten.specs.inner.Handled.{IsHandled}

pub handled-made : (k : ℕ) (q xs r : _) (first second body handler t : Flat) (vars : List ℕ) → t ≡ Try' q first k xs r second → first ≡ body → second ≡ handler → xs.items ≡ vars → IsHandled k vars body handler t
handled-made k q xs r first second body handler t vars made e f g = (q, xs, r, made ∙ ap (λ z. Try' q z k xs r second) e ∙ ap (λ z. Try' q body k xs r z) f, g)
