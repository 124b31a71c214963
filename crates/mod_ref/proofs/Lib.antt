pub mod CallsChange
pub mod Calling
pub mod SitesAre
pub mod OwnChanges
pub mod Choosing
