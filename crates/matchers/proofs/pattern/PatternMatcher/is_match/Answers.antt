use Rattle.matchers.proofs.Meaning.{matched_decides}
use Rattle.matchers.proofs.pattern.PatternMatcher.is_match.Goals as goal

pub returns : goal.returns
returns c = record { answer = c.run.ensures.answer; means = matched_decides c.args.self.now.bytes.now }
