-- One step more.
use Rattle.std.proofs.Common.{◌≡◌, ℕ, ◌+◌, List, [], ◌∷◌, ◌++◌, sym, ap, ◌∙◌}
use Rattle.nv_base.specs.declared.term.Atom.{Atom}
use Rattle.nv_base.specs.declared.term.Cmp.{Cmp}
use Rattle.nv_base.specs.declared.term.Mem.{Mem}
use Rattle.nv_base.specs.declared.term.Primitive.{Primitive}
use Rattle.cps_ir.proofs.Steps.{put_last}
use Rattle.cps_ir.specs.Spine.{put}
use Rattle.cps_ir.specs.Term as pure
use Rattle.cps_ir.specs.View.{term_view}
use Rattle.cps_ir.specs.declared.spine.Step.{Step}
use Rattle.cps_ir.specs.declared.spine.Step.TheVariants as step
use Rattle.cps_ir.specs.declared.term.Term.{Term}
use Rattle.cps_inline.specs.inner.Inlined.{Adds, moved, moved_atom, moved_atoms, moved_primitive}

pub adds-step : (some more : List Step) (s : Step) (node : pure.Term → pure.Term) → more ≡ some ++ s ∷ [] → ((t : pure.Term) → node t ≡ put s t) → Adds some more node
adds-step some more s node push is t = sym (put_last more some s t (node t) push (is t))

pub adds-let : (some more : List Step) (b x y : ℕ) (a c : Primitive) → more ≡ some ++ step.Let y c ∷ [] → y ≡ b + x → c ≡ moved_primitive b a → Adds some more (pure.Let (b + x) (moved_primitive b a))
adds-let some more b x y a c push ey ec =
    adds-step some more (step.Let y c) (pure.Let (b + x) (moved_primitive b a)) push (λ t. ap (λ z. pure.Let z (moved_primitive b a) t) (sym ey) ∙ ap (λ z. pure.Let y z t) (sym ec))

pub adds-read : (some more : List Step) (b : ℕ) (m : Mem) (xs : List ℕ) (ys : _) (a c : Atom) → more ≡ some ++ step.Read m ys c ∷ [] → ys.items ≡ moved b xs → c ≡ moved_atom b a → Adds some more (pure.Read m (moved b xs) (moved_atom b a))
adds-read some more b m xs ys a c push ey ec =
    adds-step some more (step.Read m ys c) (pure.Read m (moved b xs) (moved_atom b a)) push (λ t. ap (λ z. pure.Read m z (moved_atom b a) t) (sym ey) ∙ ap (λ z. pure.Read m ys.items z t) (sym ec))

pub adds-write : (some more : List Step) (b : ℕ) (m : Mem) (a c : Atom) (bs : List Atom) (cs : _) → more ≡ some ++ step.Write m c cs ∷ [] → c ≡ moved_atom b a → cs.items ≡ moved_atoms b bs → Adds some more (pure.Write m (moved_atom b a) (moved_atoms b bs))
adds-write some more b m a c bs cs push ec es =
    adds-step some more (step.Write m c cs) (pure.Write m (moved_atom b a) (moved_atoms b bs)) push (λ t. ap (λ z. pure.Write m z (moved_atoms b bs) t) (sym ec) ∙ ap (λ z. pure.Write m c z t) (sym es))

pub adds-if : (some more : List Step) (b : ℕ) (k : Cmp) (a c d e : Atom) (u : Term) → more ≡ some ++ step.If k c e u ∷ [] → c ≡ moved_atom b a → e ≡ moved_atom b d → Adds some more (pure.If k (moved_atom b a) (moved_atom b d) (term_view u))
adds-if some more b k a c d e u push ec ee =
    adds-step some more (step.If k c e u) (pure.If k (moved_atom b a) (moved_atom b d) (term_view u)) push (λ t. ap (λ z. pure.If k z (moved_atom b d) (term_view u) t) (sym ec) ∙ ap (λ z. pure.If k c z (term_view u) t) (sym ee))

pub adds-label : (some more : List Step) (b l k : ℕ) (xs : List ℕ) (ys : _) (u : Term) → more ≡ some ++ step.Label k ys u ∷ [] → k ≡ b + l → ys.items ≡ moved b xs → Adds some more (λ t. pure.Fix (pure.label (b + l) (moved b xs) t pure.none) (term_view u))
adds-label some more b l k xs ys u push ek ey =
    adds-step some more (step.Label k ys u) (λ t. pure.Fix (pure.label (b + l) (moved b xs) t pure.none) (term_view u)) push
    (λ t. ap (λ z. pure.Fix (pure.label z (moved b xs) t pure.none) (term_view u)) (sym ek) ∙ ap (λ z. pure.Fix (pure.label k z t pure.none) (term_view u)) (sym ey))
