use borrow.Author.Rules.{rules}
use Rattle.rpc.specs.Meaning.Crate.{crate}
use Rattle.rpcwire.specs.Laws.Choice.{message-lost, message-reply, message-call}
use Rattle.rpcwire.proofs.choice.choose.Goals as goal

pub returns-in-Err : goal.returns-in-Err
returns-in-Err c = search (message-lost crate, rules)

pub returns-in_default : goal.returns-in_default
returns-in_default c = search (message-reply crate, rules)

pub returns : goal.returns
returns c = search (message-call crate, rules)
