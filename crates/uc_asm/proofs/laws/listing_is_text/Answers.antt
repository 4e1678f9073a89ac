use Rattle.uc_asm.proofs.ListingLemmas.{listing-is-text}
use Rattle.uc_asm.proofs.laws.listing_is_text.Goals as goal

pub returns : goal.returns
returns c = listing-is-text
