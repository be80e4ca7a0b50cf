use Rattle.matchers.proofs.Listing.{listed_decides}
use Rattle.matchers.proofs.word_list.WordListMatcher.is_match.Goals as goal

pub returns-clause-means : goal.returns-clause-means
returns-clause-means c = listed_decides c.args.self.now.words.now
