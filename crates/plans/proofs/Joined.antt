-- Two lists joined: what passes, what is posted and what it sums to, part by part.
use Rattle.std.proofs.Common.{arith}
use Rattle.std.proofs.Common.{◌≡◌, Bool, List, ◌++◌, Option, ap, ◌∙◌}
use Rattle.std.proofs.lemmas.List.Elements.{filter-append, filter_map-append}
use Rattle.std.proofs.lemmas.List.Sums.{fold-append}
use Rattle.costs.specs.declared.posting.Posting.{Posting}
use Rattle.costs.specs.Kinds.{Adding}
use Rattle.model.specs.declared.question.Question.{Question}
use Rattle.model.specs.Books.{Book}
use Rattle.model.specs.Studies.{Model}
use Rattle.plans.specs.Ranges.{those}
use Rattle.plans.specs.Postings.{posting, add_posting, postings_for, plus_posting, plus_postings}

pub posting_front : (p : Option Posting) (ps qs : List Posting) → add_posting p (ps ++ qs) ≡ add_posting p ps ++ qs
posting_front p ps qs = grind arith

-- the postings of those questions that pass
abbrev pub posted_of : Model → Book → (Question → Bool) → List Question → List Posting
posted_of s b f qs = postings_for s b (those f qs)

pub posted_append : (s : Model) (b : Book) (f : Question → Bool) (xs ys : List Question) → posted_of s b f (xs ++ ys) ≡ posted_of s b f xs ++ posted_of s b f ys
posted_append s b f xs ys = ap (postings_for s b) (filter-append f xs ys) ∙ filter_map-append (posting s b) (those f xs) (those f ys)

pub sums_append : {C : Type 0} (k : Adding C) (sum : Option C) (ps qs : List Posting) → plus_postings k sum (ps ++ qs) ≡ plus_postings k (plus_postings k sum ps) qs
sums_append k sum ps qs = fold-append (plus_posting k) sum ps qs
