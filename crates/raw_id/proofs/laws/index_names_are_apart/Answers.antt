use Rattle.raw_id.proofs.IndexLaws.{target_temp, alias_target, alias_temp, one_alias, one_target, one_temp}
use Rattle.raw_id.proofs.laws.index_names_are_apart.Goals as goal

pub returns-clause-target_temp : goal.returns-clause-target_temp
returns-clause-target_temp c = target_temp

pub returns-clause-alias_target : goal.returns-clause-alias_target
returns-clause-alias_target c = alias_target

pub returns-clause-alias_temp : goal.returns-clause-alias_temp
returns-clause-alias_temp c = alias_temp

pub returns-clause-versions : goal.returns-clause-versions
returns-clause-versions c = λ v w i j apart. (λ e. apart (one_alias v w i j e), λ e. apart (one_target v w i j e), λ e. apart (one_temp v w i j e))
