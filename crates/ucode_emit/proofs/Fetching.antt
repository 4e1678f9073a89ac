-- The operands of a point are fetched as its serves say.
use Rattle.std.proofs.Common.{◌≡◌, ℕ, suc, ◌+◌, List, [], ◌∷◌, ◌++◌, length, Some, refl, ap, ◌∙◌, slice_get, arith}
use Rattle.place_plan.specs.declared.place.Serve.{Serve}
use Rattle.place_plan.specs.Plan.{Plan, serve, pass}
use Rattle.ucode_emit.specs.Moves.{Move}
use Rattle.ucode_emit.specs.Pieces.{to_read_register, each_operand, operands, words}
use Rattle.ucode_emit.specs.inner.DraftItems.{own_fetch, slot_fetch, word_fetch, each_fetch, fetches}

each_served : (f : Serve → List Move) (p : Plan) (k i : ℕ) (ss : List Serve) → ((j : ℕ) (s : Serve) → slice_get ss j ≡ Some s → serve p k (i + j) ≡ s) → each_operand (λ j. f (serve p k j)) i (length ss) ≡ each_fetch f ss
each_served f p k i [] h = refl
each_served f p k i (s ∷ ss) h =
    let z : i ≡ i + 0 = omega arith in
    ap (λ l. l ++ each_operand (λ j. f (serve p k j)) (suc i) (length ss)) (ap f (ap (serve p k) z ∙ h 0 s refl))
    ∙ ap (λ l. f s ++ l) (each_served f p k (suc i) ss (λ j r e. let w : suc i + j ≡ i + suc j = omega arith in ap (serve p k) w ∙ h (suc j) r e))

pub operands_served : (p : Plan) (k : ℕ) (ss : List Serve) → ((j : ℕ) (s : Serve) → slice_get ss j ≡ Some s → serve p k (0 + j) ≡ s) → operands p k (length ss) ≡ fetches (pass p k).l ss
operands_served p k ss h =
    ap (λ l. l ++ each_operand (to_read_register p k) 0 (length ss)) (each_served (own_fetch (pass p k).l) p k 0 ss h) ∙ ap (λ l. each_fetch (own_fetch (pass p k).l) ss ++ l) (each_served slot_fetch p k 0 ss h)

pub words_served : (p : Plan) (k i : ℕ) (ss : List Serve) → ((j : ℕ) (s : Serve) → slice_get ss j ≡ Some s → serve p k (i + j) ≡ s) → words p k i (length ss) ≡ each_fetch (word_fetch (pass p k).l) ss
words_served p k i ss h = each_served (word_fetch (pass p k).l) p k i ss h
