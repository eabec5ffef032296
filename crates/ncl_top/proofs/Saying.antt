-- How a call comes to say a text.
use Rattle.ncl_top.proofs.Terms.{Arguments, Command, Fixed, Gives, IsReply, Made, Reply, Says, Some, SourceState, answered, command_of, replied, ◌≡◌}

-- the reply to the command that the arguments give is what the call says
pub says_reply : (arguments : Arguments) (before now : SourceState) (command : Command) (reply : Reply) → command_of arguments ≡ Some command → Gives (IsReply command before.files) reply → Gives (Says arguments before now) reply
says_reply arguments before now command (Made status text) is answer = answered status text.items (replied command is status text.items answer)
says_reply arguments before now command (Fixed status text) is answer = answered status text.now (replied command is status text.now answer)
