use Rattle.reader.proofs.Opening.{opened_stands, opened_taken, refused_opening}
use Rattle.reader.proofs.reader.opening.law_of_opening.Goals as goal

pub returns : goal.returns
returns c = record { stands = opened_stands; taken = opened_taken; refused = refused_opening }
