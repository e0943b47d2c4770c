pub mod Sites
pub mod SiteViews
pub mod PlacesOfFaults
