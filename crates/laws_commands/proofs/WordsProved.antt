-- Words of commands, by computing.
use Rattle.std.proofs.Common.{◌≡◌, refl, ap, sym, ℕ, List, [], ◌∷◌, Option, Some, None, length, inl, inr, lit<, lit≤, codes, arith}
use Rattle.std.specs.Prelude.{⊤}
use Rattle.std.specs.Fmt.{digits}
use Rattle.nv_outside.specs.Holding.{IsLonger}
use Rattle.novac_words.specs.Inputs.{input}
use Rattle.novac_words.specs.declared.refusal.Refusal.TheVariants.{TooLarge}
use Rattle.novac_commands.specs.Loading.{IsRead, IsUnread, StopsAt}
use Rattle.laws_commands.specs.Words.{CompileWords, OtherWords, FilesOfCommands, CallsOfCommands, InputsAreRead, two_bytes}

pub compile_words : CompileWords
unfolding digits
compile_words = record {
  plain = refl;
  some = refl;
  all = refl;
  order = refl;
  twice = refl;
  many = refl;
  none = refl;
  zeros = refl;
  no_name = refl;
  same_file = refl;
  same_output = refl;
  options_as_names = refl;
}

pub other_words : OtherWords
unfolding digits
other_words = record { run = refl; no_step = refl; no_steps = refl; gen = refl; large = refl; dis = refl; empty = refl; more = refl; nothing = refl; capitals = refl }

pub files_of_commands : FilesOfCommands
files_of_commands = record { compile = refl; outputs = refl; run = refl; no_output = refl; peep = refl; counts = refl }

pub calls_of_commands : CallsOfCommands
calls_of_commands = record { asm = refl; run = refl }

read : (name : List ℕ) → IsRead ⊤ two_bytes (input name 2) (1 ∷ 2 ∷ [])
read name = record { short = lit≤ tt; here = λ t. refl }

two_is_not_one : ◌≡◌ {A = ℕ} 2 1 → ⊥
two_is_not_one e = omega (arith, e)

abbrev length_of : Option (List ℕ) → ℕ
length_of None = 0
length_of (Some bytes) = length bytes

not_longer : (name : List ℕ) → IsLonger two_bytes name 2 → ⊥
not_longer name (bytes, e, long) =
    let two : length bytes ≡ 2 = ap length_of (sym e) in
    omega (arith, two, long)

no_stop : StopsAt ⊤ two_bytes (input (codes "a") 2 ∷ input (codes "b") 1 ∷ []) (IsUnread ⊤ two_bytes (λ _. ⊥) (TooLarge 2)) → ⊥
no_stop (inl (e, long)) = not_longer (codes "a") (long tt)
no_stop (inr (bytes, first, inl (e, long))) = two_is_not_one e
no_stop (inr (bytes, first, inr h)) = h.2

pub inputs_are_read : InputsAreRead
inputs_are_read = record {
  both = (read (codes "a"), (read (codes "b"), tt));
  second = inr (1 ∷ 2 ∷ [], read (codes "a"), inl (refl, λ t. (1 ∷ 2 ∷ [], refl, lit< tt)));
  not_first = no_stop;
}
