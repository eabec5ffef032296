-- The arguments and the files have at most one status, and at most one text where they determine it.
use Rattle.ncl_top.proofs.Terms.{Answer, Arguments, Bool, Command, Files, IsCheckReply, IsFileReply, IsReply, IsTrue, List, None, Some, ap, arguments_determine_status, arguments_determine_text, both_ways, check, command_of, compile, demo, determines_status, determines_text, false, matching, not, not_understood, refl, replied, same_reply, sim, status_of, subst, sym, true, ℕ, ◌∙◌, ◌≡◌}
use Rattle.ncl_top.proofs.CompileStatus.{same_compile_status}
use Rattle.ncl_sim_match.proofs.Matched.{one_match_reply}
use Rattle.ncl_sim_match.proofs.Simulated.{one_sim_reply}

-- the bytes that both replies are to
same_file_reply : (files : Files) (file : List ℕ) (limit : ℕ) (why : Bool) (status other : ℕ) (text line : List ℕ) → IsFileReply (Some files) file limit why status text → IsFileReply (Some files) file limit why other line → (status ≡ other) × (why ≡ false → text ≡ line)
same_file_reply files file limit why status other text line one two =
    let bytes : one.bytes ≡ two.bytes = one.given ∙ sym two.given in
    let same = same_reply limit why two.bytes (subst (λ bytes. IsCheckReply limit why bytes one.outcome text) bytes one.reply) two.reply in
    (one.ends ∙ ap status_of same.0 ∙ sym two.ends, same.1)

plain : (why : Bool) → IsTrue (not why) → why ≡ false
plain false asked = refl
plain true asked = absurd (both_ways false refl asked)

same_command_status : (files : Files) (command : Command) → IsTrue (determines_status command) → (status other : ℕ) (text line : List ℕ) → IsReply command (Some files) status text → IsReply command (Some files) other line → status ≡ other
same_command_status files (check file limit why) determined status other text line one two = (same_file_reply files file limit why status other text line one two).0
same_command_status files (compile file merge) determined status other text line one two = same_compile_status files file merge one two
same_command_status files (sim netlist delays words vcd) determined status other text line one two = (one_sim_reply files netlist delays words vcd one two).0
same_command_status files (matching netlist blif limit) determined status other text line one two = (one_match_reply files netlist blif limit one two).0
same_command_status files (demo bits) determined status other text line one two = absurd (both_ways false refl determined)

same_command_text : (files : Files) (command : Command) → IsTrue (determines_text command) → (status other : ℕ) (text line : List ℕ) → IsReply command (Some files) status text → IsReply command (Some files) other line → text ≡ line
same_command_text files (check file limit why) determined status other text line one two = (same_file_reply files file limit why status other text line one two).1 (plain why determined)
same_command_text files (compile file merge) determined status other text line one two = absurd (both_ways false refl determined)
same_command_text files (sim netlist delays words vcd) determined status other text line one two = (one_sim_reply files netlist delays words vcd one two).1
same_command_text files (matching netlist blif limit) determined status other text line one two = (one_match_reply files netlist blif limit one two).1
same_command_text files (demo bits) determined status other text line one two = absurd (both_ways false refl determined)

module _ (arguments : Arguments) (files : Files) where
  -- two commands that the arguments give are one
  one_command : (command named : Command) → command_of arguments ≡ Some command → command_of arguments ≡ Some named → command ≡ named
  one_command command named is is' = let both : Some command ≡ Some named = sym is ∙ is' in cc

  pub same_status : IsTrue (arguments_determine_status (command_of arguments)) → {status other : ℕ} {text line : List ℕ} → Answer arguments (Some files) status text → Answer arguments (Some files) other line → status ≡ other
  same_status determined (not_understood e) (not_understood e') = refl
  same_status determined (not_understood e) (replied command is status text reply) = let differ : None ≡ Some command = sym e ∙ is in cc
  same_status determined (replied command is status text reply) (not_understood e) = let differ : None ≡ Some command = sym e ∙ is in cc
  same_status determined (replied command is status text reply) (replied command' is' status' text' reply') =
      same_command_status files command' (subst (λ o. IsTrue (arguments_determine_status o)) is' determined) status status' text text' (subst (λ m. IsReply m (Some files) status text) (one_command command command' is is') reply) reply'

  pub same_text : IsTrue (arguments_determine_text (command_of arguments)) → {status other : ℕ} {text line : List ℕ} → Answer arguments (Some files) status text → Answer arguments (Some files) other line → text ≡ line
  same_text determined (not_understood e) (not_understood e') = refl
  same_text determined (not_understood e) (replied command is status text reply) = let differ : None ≡ Some command = sym e ∙ is in cc
  same_text determined (replied command is status text reply) (not_understood e) = let differ : None ≡ Some command = sym e ∙ is in cc
  same_text determined (replied command is status text reply) (replied command' is' status' text' reply') =
      same_command_text files command' (subst (λ o. IsTrue (arguments_determine_text o)) is' determined) status status' text text'
      (subst (λ m. IsReply m (Some files) status text) (one_command command command' is is') reply) reply'
