-- One turn of a loop that appends to a list.
use Rattle.std.proofs.Common.{◌≡◌, ℕ, ◌+◌, ◌<◌, List, [], ◌∷◌, ◌++◌, map, Option, length, take, get_or, refl, sym, ap, ◌∙◌, append_assoc}
use Rattle.std.proofs.lemmas.List.{take_more, append-nil}
use Rattle.place_plan.specs.declared.place.Place.{Place}
use Rattle.place_plan.specs.declared.place.Serve.{Serve}
use Rattle.ucode_emit.specs.Moves.{Move}
use Rattle.ucode_emit.specs.Pieces.{move_instr, moved, copied, all_copied, single_move, single_moves}
use Rattle.ucode_emit.specs.inner.DraftItems.{draft, each_fetch}

-- what is appended for each of some elements is appended for one more
pub turn : {X Y : Type 0} (f : List X → List Y) (g : X → List Y) (last : (a : List X) (x : X) → f (a ++ x ∷ []) ≡ f a ++ g x) (xs : List X) (i : ℕ) (d : X) (old before now : List Y)
    → i < length xs → now ≡ before ++ g (get_or xs i d) → before ≡ old ++ f (take i xs) → now ≡ old ++ f (take (i + 1) xs)
turn f g last xs i d old before now lt push was =
    push
    ∙ (ap (λ l. l ++ g (get_or xs i d)) was
    ∙ (append_assoc old (f (take i xs)) (g (get_or xs i d))
    ∙ ap (λ l. old ++ l) (sym (ap f (take_more xs i d lt) ∙ last (take i xs) (get_or xs i d)))))

pub copied_last : (s : Option ℕ) (from : Place) (a : List Place) (q : Place) → all_copied s from (a ++ q ∷ []) ≡ all_copied s from a ++ copied s from q
copied_last s from [] q = append-nil (copied s from q)
copied_last s from (r ∷ a) q = ap (λ l. copied s from r ++ l) (copied_last s from a q) ∙ sym (append_assoc (copied s from r) (all_copied s from a) (copied s from q))

pub singles_last : (l : Option ℕ) (a : List Move) (m : Move) → single_moves l (a ++ m ∷ []) ≡ single_moves l a ++ single_move l m.0 m.1
singles_last l [] m = append-nil (single_move l m.0 m.1)
singles_last l (n ∷ a) m =
    ap (λ z. single_move l n.0 n.1 ++ z) (singles_last l a m) ∙ sym (append_assoc (single_move l n.0 n.1) (single_moves l a) (single_move l m.0 m.1))

pub fetches_last : (f : Serve → List Move) (a : List Serve) (s : Serve) → each_fetch f (a ++ s ∷ []) ≡ each_fetch f a ++ f s
fetches_last f [] s = append-nil (f s)
fetches_last f (r ∷ a) s = ap (λ z. f r ++ z) (fetches_last f a s) ∙ sym (append_assoc (f r) (each_fetch f a) (f s))

-- the instructions of moves
pub instrs_last : (a : List Move) (m : Move) → map draft (moved (a ++ m ∷ [])) ≡ map draft (moved a) ++ move_instr m.0 m.1 ∷ []
instrs_last [] m = refl
instrs_last (n ∷ a) m = ap (λ z. move_instr n.0 n.1 ∷ z) (instrs_last a m)
