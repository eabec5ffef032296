-- What a bank reads, from its first register cell alone.
use Rattle.ncl_shape.proofs.Terms.{A, Ack, AckOf, Cell, ComesFrom, Follows, FromPort, IsFeedOf, IsFirstBank, IsFree, IsInputOf, IsInputPort, IsNetlist, IsOfBank, IsSourceOf, Many, NetId, NetlistData, None, OnPin, Option, Origin, Port, Rail, RailOf, Some, Source, inl, inr, one_origin, place_of, port_origin, refl, ℕ, ◌≡◌, ◌⊎◌}
use Rattle.ncl_shape.proofs.ChainLaws.{same_rails, first_follows_none}

module _ (n : NetlistData) (is : IsNetlist n) (free : IsFree n) where
  -- the bank reads input ports alone where its first register cell reads one
  first_bank_from_input : (bank net : ℕ) (c : Cell) → IsOfBank n bank c → OnPin c A net → IsInputPort n net → IsFirstBank n bank
  first_bank_from_input bank net c of_c on input = record { is_bank = (c, of_c); inputs = other }
    where
      other : (y : ℕ) → IsInputOf n bank y → IsInputPort n y
      other y (d, of_d, on_d) =
          let (k, at) = place_of n d of_d.0 in
          elim (((free.unmixed k d at).register of_d.1).rail y on_d) [
            | inl is_port ↦ is_port
            | inr (before, only) ↦
                let also : ComesFrom n net (RailOf before) = same_rails n is free bank d c of_d of_c y net on_d on before only.comes in
                let clash = port_origin n is net (RailOf before) input also in
                absurd cc
          ]

  -- so the source of the net on its pin A tells what the bank reads
  pub feed_of : (bank net : ℕ) (c : Cell) (s : Source) → IsOfBank n bank c → OnPin c A net → IsSourceOf n net s → IsFeedOf n bank (Some s)
  feed_of bank net c s of_c on is_s = by s is_s
    where
      rail_or_port : (o : Origin) → ComesFrom n net o → (IsInputPort n net × (o ≡ FromPort)) ⊎ ((before : ℕ) × (o ≡ RailOf before))
      rail_or_port o from =
          let (k, at) = place_of n c of_c.0 in
          elim (((free.unmixed k c at).register of_c.1).rail net on) [
            | inl input ↦ inl (input, port_origin n is net o input from)
            | inr (before, only) ↦ inr (before, only.only o from)
          ]

      by : (s : Source) → IsSourceOf n net s → IsFeedOf n bank (Some s)
      by Port of_net = elim (rail_or_port FromPort of_net.comes) [ inl (input, same) ↦ first_bank_from_input bank net c of_c on input | inr (before, same) ↦ absurd cc ]
      by (Rail before) of_net = (net, (c, of_c, on), of_net.comes)
      by (Ack request) of_net = elim (rail_or_port (AckOf request.0) of_net.comes) [ inl (input, same) ↦ absurd cc | inr (before, same) ↦ absurd cc ]
      by Many two = absurd (two.differ (one_origin n is free net two.one two.two two.is_one two.is_two))

  -- the first bank is told by its feed
  pub feed_of_first : (bank : ℕ) (feed : Option Source) → IsFeedOf n bank feed → IsFirstBank n bank → feed ≡ Some Port
  feed_of_first bank None no_bank first = absurd (no_bank first.is_bank)
  feed_of_first bank (Some Port) fed first = refl
  feed_of_first bank (Some (Rail before)) fed first = absurd (first_follows_none n is free bank before.0 first fed)
  feed_of_first bank (Some (Ack request)) fed first = absurd fed
  feed_of_first bank (Some Many) fed first = absurd fed

  -- and a bank that follows by its own
  pub feed_of_follower : (bank before : ℕ) (feed : Option Source) → IsFeedOf n bank feed → Follows n before bank → (r : NetId) × (feed ≡ Some (Rail r))
  feed_of_follower bank before None no_bank (net, (c, of_c, on), from) = absurd (no_bank (c, of_c))
  feed_of_follower bank before (Some Port) fed follows = absurd (first_follows_none n is free bank before fed follows)
  feed_of_follower bank before (Some (Rail r)) fed follows = (r, refl)
  feed_of_follower bank before (Some (Ack request)) fed follows = absurd fed
  feed_of_follower bank before (Some Many) fed follows = absurd fed
