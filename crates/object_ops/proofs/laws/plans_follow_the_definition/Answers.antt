use Rattle.call_model.specs.Scripts.{next, last}
use Rattle.call_model.specs.Steps.{work_of}
use Rattle.call_words.specs.Product.{product_words}
use Rattle.object_ops.specs.Stages.{begun, went_on}
use Rattle.object_ops.proofs.Plans.{first_is, then_is, answered_as, asked_as}
use Rattle.object_ops.proofs.Judged.{can_begin, can_go_on}
use Rattle.object_ops.proofs.Sizes.{first_few, next_few}
use Rattle.object_ops.proofs.laws.plans_follow_the_definition.Goals as goal

pub returns-clause-first : goal.returns-clause-first
unfolding begun
returns-clause-first c = λ reg call. first_is reg (work_of product_words reg call)

pub returns-clause-answers : goal.returns-clause-answers
unfolding begun
returns-clause-answers c = λ reg call reply answer is.
    answered_as reg (next product_words reg call reply) (λ two. last product_words reg call reply two) (went_on reg (begun reg call).stage reply) answer (then_is reg (work_of product_words reg call) reply) is

pub returns-clause-asks : goal.returns-clause-asks
unfolding begun
returns-clause-asks c = λ reg call reply ask is.
    (asked_as reg (next product_words reg call reply) (λ two. last product_words reg call reply two) (went_on reg (begun reg call).stage reply) ask (then_is reg (work_of product_words reg call) reply) is).0

pub returns-clause-last : goal.returns-clause-last
unfolding begun
returns-clause-last c = λ reg call one two ask is.
    (asked_as reg (next product_words reg call one) (λ reply. last product_words reg call one reply) (went_on reg (begun reg call).stage one) ask (then_is reg (work_of product_words reg call) one) is).1 two

pub returns-clause-starts : goal.returns-clause-starts
returns-clause-starts c = λ reg call. can_begin reg call

pub returns-clause-goes_on : goal.returns-clause-goes_on
returns-clause-goes_on c = λ reg call reply. can_go_on reg (begun reg call).stage reply

pub returns-clause-first_is_small : goal.returns-clause-first_is_small
returns-clause-first_is_small c = λ reg call few. first_few reg call few

pub returns-clause-next_is_small : goal.returns-clause-next_is_small
returns-clause-next_is_small c = λ reg call reply ask few is. next_few reg call reply ask few is
