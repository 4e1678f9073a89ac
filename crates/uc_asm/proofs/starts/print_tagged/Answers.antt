use Rattle.std.proofs.Common.{ℕ, List, ◌≡◌, ◌∙◌, [], ap, subst, arith}
use Rattle.std.proofs.lemmas.List.{get_or_read}
use Rattle.uc_isa.specs.Code.{CodeView, IsCode}
use Rattle.uc_asm.specs.Starts.{labels_at, tagged_listing}
use Rattle.uc_asm.proofs.ListingLemmas.{fit-more}
use Rattle.uc_asm.proofs.NumberedLemmas.{listing-begins, place-more, places-end, listed-text}
use Rattle.uc_asm.proofs.starts.print_tagged.Goals as goal

pub loop-place-init : goal.loop-place-init
loop-place-init c =
    let t = c.args.tagged.now in
    let list : c.list-list.result.now ≡ t.code.list = c.list-list.ensures.list ∙ ap (λ (x : CodeView). x.list) c.code-code.ensures in
    let params : c.params.result ≡ t.code.params = c.params.ensures.params ∙ ap (λ (x : CodeView). x.params) c.code-code.ensures in (
      listing-begins t c.new-out.result.items c.push_params.new.out.items c.params.result c.list-list.result.now c.new-out.ensures.items params list c.in_ok-push_params.ensures,
      λ j d less. absurd (omega arith),
    )

pub loop-place-preserved : goal.loop-place-preserved
loop-place-preserved c =
    let t = c.args.tagged.now in
    let list = c.list-list.result.now in
    let place = c.loop-place.place in
    let i = c.index-list-place.result in
    let numbers = c.in_ok-numbers.ensures in
    let read = get_or_read c.in_ok-numbers.numbers.items place c.index.result.now (omega (arith, numbers.many)) c.index.ensures [] in
    let named : c.list.result.now ≡ labels_at 0 t.starts place =
    c.list.ensures ∙ read ∙ numbers.each place c.loop-place-test.true ∙ ap (λ (xs : List ℕ). labels_at 0 xs place) c.starts.ensures.starts in (
      place-more t.starts place list i c.list.result.now c.loop-place.out.items c.push_labels.new.out.items c.push_instruction.new.out.items (tagged_listing t)
          c.loop-place-test.true c.index-list-place.is named c.loop-place.invariant.0 c.in_ok-push_labels.ensures c.in_ok-push_instruction.ensures.line,
      fit-more place list i c.loop-place-test.true c.index-list-place.is c.push_instruction.ensures.fits c.loop-place.invariant.1,
    )

pub returns-clause-listing : goal.returns-clause-listing
returns-clause-listing c =
    let t = c.args.tagged.now in
    places-end t.starts c.loop-place.place c.list-list.result.now c.loop-place.out.items (tagged_listing t) c.loop-place-test.false c.loop-place.invariant.0

pub returns-clause-text : goal.returns-clause-text
returns-clause-text c =
    let t = c.args.tagged.now in
    let list : c.list-list.result.now ≡ t.code.list = c.list-list.ensures.list ∙ ap (λ (x : CodeView). x.list) c.code-code.ensures in
    let whole = places-end t.starts c.loop-place.place c.list-list.result.now c.loop-place.out.items (tagged_listing t) c.loop-place-test.false c.loop-place.invariant.0 in
    listed-text t c.loop-place.out.items c.list-list.result.now c.loop-place.place list c.loop-place-test.false whole
    (subst IsCode c.code-code.ensures c.list-list.ensures.code) c.starts.ensures.tagged c.loop-place.invariant.1
