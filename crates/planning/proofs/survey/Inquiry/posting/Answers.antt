use Rattle.planning.proofs.Posts.{option_posts}
use Rattle.planning.proofs.survey.Inquiry.posting.Goals as goal

pub learned-requires : goal.learned-requires
learned-requires g c =
    option_posts c.args.self.now.rate c.args.self.now.number c.args.echelon c.args.option c.ask.result c.args.self.now.few_failures c.ask.ensures.limits
