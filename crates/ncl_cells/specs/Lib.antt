pub mod Remade
pub mod Recasts
pub mod Reordered
