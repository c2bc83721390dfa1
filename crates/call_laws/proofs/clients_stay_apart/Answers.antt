use Rattle.call_laws.proofs.Keeping.{script_asks_only, script_writes_fresh, script_registry, script_hears}
use Rattle.call_laws.proofs.clients_stay_apart.Goals as goal

pub returns-clause-own_alias : goal.returns-clause-own_alias
returns-clause-own_alias g c = λ w script ask e. script_asks_only w script ask e

pub returns-clause-fresh_writes : goal.returns-clause-fresh_writes
returns-clause-fresh_writes g c = λ w script ask e h. script_writes_fresh w script ask e h

pub returns-clause-registry : goal.returns-clause-registry
returns-clause-registry g c = λ w script reply. script_registry w script.registry script script.calls script.heard reply

pub returns-clause-heard : goal.returns-clause-heard
returns-clause-heard g c = λ w script ask reply e h. script_hears w script ask reply e h
