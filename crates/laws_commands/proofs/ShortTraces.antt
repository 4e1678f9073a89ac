-- Short traces, by computing, and where lists of writes differ.
use Rattle.std.proofs.Common.{◌≡◌, ◌≢◌, ℕ, zero, suc, ◌<◌, List, [], ◌∷◌, ◌++◌, Some, length, refl, arith}
use Rattle.std.specs.Prelude.{slice_get}
use Rattle.std.specs.Fmt.{digits}
use Rattle.nv_lines.specs.Number.{hex_word}
use Rattle.nv_base.specs.declared.outcome.Write.{Write}
use Rattle.nv_trace.specs.Unlike.{IsFirstUnlike}
use Rattle.nv_trace.proofs.Unlikes.{unlike-agree, unlike-one}
use Rattle.laws_commands.specs.Traces.{FirstDifference, ShortTrace}

pub short_trace : ShortTrace
unfolding digits hex_word
short_trace = record { text = refl; first = refl; no_line = refl; all = λ ms. refl; scratch = refl }

some-once : (v w : Write) → Some v ≡ Some w → v ≡ w
some-once v w e = cc

second : (v w w' : Write) (vs ws : List Write) → w ≢ w' → IsFirstUnlike 1 (v ∷ w ∷ vs) (v ∷ w' ∷ ws)
second v w w' vs ws apart = (omega arith, omega arith, refl, λ e. apart (some-once w w' e))

same-front : (i : ℕ) (vs more : List Write) → i < length vs → slice_get vs i ≡ slice_get (vs ++ more) i
same-front i [] more lt = absurd (omega arith)
same-front zero (v ∷ vs) more lt = refl
same-front (suc i) (v ∷ vs) more lt = same-front i vs more (omega arith)

pub first_difference : FirstDifference
first_difference = record {
  second = second;
  one = unlike-one;
  none = λ i vs more h. h.3 (same-front i vs more h.0);
  agree = λ i vs ws agree h. unlike-agree i vs ws h agree;
}
