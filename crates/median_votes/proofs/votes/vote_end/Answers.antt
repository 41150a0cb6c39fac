-- `vote_end` meets its contract: two reads and a comparison.
use Rattle.median_spec.proofs.Voted.{two_counts_fit}
use Rattle.median_votes.proofs.votes.vote_end.Goals as goal

pub overflow_add-result-2 : goal.overflow_add-result-2
overflow_add-result-2 c = two_counts_fit c.requires.0 _ _
