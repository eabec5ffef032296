-- The values that `clap` finds of a form's names.
use Rattle.ncl_command.proofs.Terms.{ArgMatches, Arguments, Error, ErrorKind, Form, HasKind, IsAmong, Kinds, List, NamedValue, None, Option, OutOfMemory, Some, [], ap, app_for, false, fault_of, first_of, first_value-rows, found_of, fun_ext, has_option, inl, inr, is_refused, list_any, matches_of, option_map, read_arguments, refl, rows_of, subst, value_given, values_found, values_of, ◌∙◌, ◌∷◌, ◌≡◌}
use Rattle.clap.specs.Values.{kind_of}
use Rattle.ncl_command.proofs.FormRules.{AreFew}
use Rattle.ncl_command.proofs.ClapEnds.{value_is}
use Rattle.ncl_command.proofs.FormReads.{Fails, Reads, form_reads}

fails_among : (kind : ErrorKind) (kinds : Kinds) → IsAmong kind kinds → Fails kinds
fails_among kind [] among = among
fails_among kind (other ∷ kinds) among = tt

-- an error that isn't want of memory comes from a fault
pub fails_by : (kinds : Kinds) (error : Error) → HasKind kinds error → (kind_of error ≡ OutOfMemory → ⊥) → Fails kinds
fails_by kinds error (inl memory) other = absurd (other memory)
fails_by kinds error (inr among) other = fails_among (kind_of error) kinds among

module _ (form : Form) (alone : list_any (has_option form) form.places ≡ false) (few : AreFew form) (arguments : Arguments) (readable : list_any is_refused arguments ≡ false) where
  -- where nothing fails, each name has the value that the arguments give it
  pub found : (m : ArgMatches) → fault_of (app_for form) arguments ≡ [] → rows_of (found_of m) ≡ matches_of (app_for form) arguments → Some (values_found m) ≡ values_of form arguments
  found m passes found_rows = by (read_arguments form arguments) (form_reads form alone few arguments readable)
    where
      by : (o : Option (List NamedValue)) → Reads form o (fault_of (app_for form) arguments) (matches_of (app_for form) arguments) → Some (values_found m) ≡ option_map (value_given form) o
      by None fails = absurd (subst Fails passes fails)
      by (Some given) reads =
          ap Some (fun_ext (λ name. first_value-rows (found_of m) name ∙ ap (first_of name) (found_rows ∙ reads.1) ∙ value_is form given name))

  -- where something fails, the arguments are not of the form
  pub not_found : Fails (fault_of (app_for form) arguments) → None ≡ values_of form arguments
  not_found fails = by (read_arguments form arguments) (form_reads form alone few arguments readable)
    where
      by : (o : Option (List NamedValue)) → Reads form o (fault_of (app_for form) arguments) (matches_of (app_for form) arguments) → None ≡ option_map (value_given form) o
      by None failed = refl
      by (Some given) reads = absurd (subst Fails reads.0 fails)
